-- The numbers of a replay that C sees, as what the libraries answer.
use Rattle.system.specs.declared.Answer.{Answer}
use Rattle.cue_replay.specs.declared.CueReplayed.{CueReplayed}

-- the same three numbers
abbrev pub replayed_answer : CueReplayed → Answer
replayed_answer a = record { number = a.number; place = a.place; steps = a.steps }
