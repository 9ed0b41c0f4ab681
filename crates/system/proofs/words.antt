-- What the words of any book tell, and the span of subterms.
pub mod BookWords
pub mod SpanSteps
