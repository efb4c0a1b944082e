-- What the proofs of other crates cite of lines: the first line of a text, and the words of one of the usual form, or of
-- short words.

-- a text that has a line
pub use Rattle.dine_lines.proofs.Pieces.{some_line}
-- lines of the usual form
pub use Rattle.dine_lines.proofs.LineForms.{begins-free, is_within, lines_of-begun, lines_of-one, lines_of-two, rest_is_shorter, words_of-one, words_of-two}
-- lines of short words
pub use Rattle.dine_lines.proofs.ShortLines.{BeginsLine, BeginsWords, begins-last, begins-onto, line-behind, line-last, line-onto, lines_of-begins, lines_of-line, more-onto}
