-- The words of the logic that the proofs on raw memory are written in, gathered from the kit. Assumes `Logic`.
pub use mathlib.Core.Path.{◌≡◌, refl, sym, ap, subst, ◌∙◌}
pub use mathlib.Core.Bool.{true, false}
pub use Prim.Native.Nat.{ℕ, ◌*◌, ◌<◌, ◌^◌, ◌+◌, zero, suc}
pub use native.Mathlib.Omega.{arith}
pub use mathlib.Core.List.{List, [], ◌∷◌, ◌++◌}
pub use lib.Dec.{lit<, T}
pub use seplogic.Ra.Ura.{Ura}
pub use mir.Syntax.{Fn, Body, named, w64, ty_array, ty_unit, Ty}
pub use mir.MapTy.{inst_fn}
pub use mir.Val.{Val, vptr, vint, vstruct, vcons, vnil, vunit, has_ty, WT, of_list}
pub use base.Logic.{SProp, ent, never, id⊢, sep, emp, via, snd∗}
pub use base.Fml.{Lft, Share, ftrue, flft, Incl-trans, froom, fat, GName, Fml, fsep, fobs, fbor}
pub use prog.Wp.{Env, Calls, Loops, WpFn, Tables, Wp, after_seq, at_return, Closed}
pub use types.Logic.{Logic, sem}
pub use contract.Monad.{fact, Fun}
unfoldable pub use contract.Running.{tables, tables_of}
pub use contract.Running.{Running}
pub use prog.Model.{Model}
pub use sound.WpLaws.{WpFn-mono, FmC, fm_of}
pub use types.Kit.{Item, ⋆, ‵, raw, ◌⊛◌, later, await, at_ret, ◌$◌, ◌∵◌, !, qed, by, move, keep, use0, use1, use2, use3, split, join, fsplit, fsplit3, fjoin, feq_l, suffices, frame, done, flt_l, flt_i, any_q, given, learn, group, rewrite, feq_i, drop, some, pick, fjoin3, fpack, fpick, Goal, Seq, Step, step}
pub use types.Part.{whole, agg, sub}
pub use types.Run.{stop, fld, lit, of_opd, and_then, no_more, first, exec, returns, enter, bin, size_word, align_word, switches_on, unit_lit, blocks, addr, size_lit, init, assigns_last}
pub use types.ByLocal.{alloc_all, pass_all, free_all, look_at, get, get_in, sets, sets_last, is, env, get_tag, lands_as, lands_last, through, take_at, give_at}
pub use denote.Exit.{Kept, yes, no}
pub use denote.RattleType.{RattleType, owns, Valss}
pub use denote.Memory.{hidden_shr, mem, cell_at, part_at}
unfoldable pub use denote.Memory.{part_of}
pub use denote.Param.{layout, param}
pub use denote.RawPtr.{Ptr, block_ptr, InBlock, ptr_val, in_a_block, RawPtr, null_ptr}
pub use denote.Ref.{Bor, ShrRef, MutBor, MutRef}
pub use denote.Builtin.{RefOf, usize, RefMutOf, unit}
pub use denote.Signature.{plain, shr_ref_to, mut_ref_to, Slot, Signature}
pub use denote.Steps.{nothing, owned, opens, closes, peeks}
pub use denote.Struct.Tuple.{Tuple, tuple_type}
pub use denote.Triple.Clauses.{Clauses, Ended, closing}
pub use denote.Triple.End.{Kepts}
pub use denote.Triple.Entry.{on_entry}
pub use denote.Triple.Spec.{Meets, triple_of, Spec}
pub use denote.Triple.Table.{entered, run_framed}
pub use denote.Triple.Walked.{says, needs, Stays, stay_dropped, walk_of, ends_at, Goes-dropped, walk_Meets, Goes-spent_ref, stay_ref, Goes-ref}
pub use Rattle.std.proofs.VecSteps.Shapes.{after, head, arm_body}
pub use Rattle.std.proofs.RcSteps.{Good, word, word-Good, first_Good}
pub use lib.ListN.{length, replicate, length-replicate, get_or, set, length-set}
pub use Rattle.std.specs.Prelude.{None, IfOk, Ok, Err, Some, Option}
pub use Rattle.std.proofs.mem.Param.{El, R, elτ, args, el_x}
pub use Rattle.std.proofs.RawLayout.{as_written, as_raw}
pub use prog.Memory.{Memory, align, capped}
pub use prog.Capped.{capped_fits}
pub use prog.Routine.{Routine, Callee}
pub use contract.BorrowLft.{◌⊑◌}
pub use types.Match.{live, vrt, in_variant}
pub use denote.Laws.{Is, Typed, shows}
pub use denote.Struct.Struct.{Shape, Struct, Struct-Makes, within}
pub use denote.Triple.Statement.{Triple}
pub use denote.Triple.Call.{calls_at, calls_at_last}
pub use Rattle.std.specs.Vec.Ownership.{FitsInBlock}
pub use Rattle.std.proofs.alloc.Calls.{Al, second, Answer-typed, takes_key, Takes, at_takes, Answered, Takes-goes, Takes-gives, answers, Goes-blank, token, gives_key, Gives, at_gives, Gives-goes, Gives-Gives}
pub use Rattle.std.proofs.ResultValues.{ok_of, err_of}
pub use base.Fraction.{full_share}
pub use denote.Opens.{hide, unhide}
pub use denote.Triple.Carry.{spared, grown}
pub use Rattle.std.specs.Ptr.{ptr_add}
pub use denote.Follow.{follows, Part, lends_Part}
pub use Rattle.std.proofs.ptr.Rows.{times_below, one_below}
pub use native.Mathlib.Nat.{zero-mul, suc-mul}
pub use denote.Param.Laws.{Laws, param_laws}
pub use Rattle.std.specs.Mem.{type_size}
