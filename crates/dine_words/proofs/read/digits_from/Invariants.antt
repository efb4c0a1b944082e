use Rattle.std.proofs.Common.{◌≡◌, ◌<◌, ◌^◌, drop}
use Rattle.dine_words.specs.Reading.{digits_after}
use Rattle.dine_words.proofs.read.digits_from.Given as goal

-- the number read so far is small, and what is left goes on from it to what the whole gives
abbrev pub invariant-loop-index : goal.invariant-loop-index
invariant-loop-index l =
    record {
      small : l.number < 2 ^ 64;
      goes_on : digits_after l.number (drop l.index l.bytes) ≡ digits_after l.fn.first l.bytes;
    }
