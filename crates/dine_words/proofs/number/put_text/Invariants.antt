use Rattle.std.proofs.Common.{◌≡◌, ◌+◌, ◌++◌, take, vec_capacity, vec_len}
use Rattle.dine_words.proofs.number.put_text.Given as goal

-- the bytes so far are written, and there is room for the others
abbrev pub invariant-loop-byte : goal.invariant-loop-byte
invariant-loop-byte l =
    record {
      text : l.out.items ≡ l.initial.out.items ++ take l.byte-index l.text;
      len : vec_len l.out ≡ vec_len l.initial.out + l.byte-index;
      capacity : vec_capacity l.out ≡ vec_capacity l.initial.out;
    }
