-- A replay in which a block is lost, as a chain of views.
use Rattle.std.proofs.Common.{◌≡◌, ◌≢◌, ◌==◌, ◌∙◌, ℕ, false, List, [], ◌∷◌, refl, sym, ap, arith, inl}
use Rattle.std.specs.Prelude.{codes, slice_set, if◌then◌else◌}
use Rattle.std.specs.Fmt.{digits}
use Rattle.std.proofs.lemmas.Bool.{cond-false, false≢true, ne_eqb}
use Rattle.std.proofs.lemmas.List.Elements.{All-cons, All-nil}
use Rattle.hex.specs.Hex.{encode_with}
use Rattle.dg_io.specs.Racks.{told_in}
use Rattle.dg_io.specs.Sinks.{taken_in}
use Rattle.dg_model.specs.Blocks.{padded}
use Rattle.dg_model.specs.Members.{IsStruck, is_good}
use Rattle.dg_model.specs.Sites.{IsSited}
use Rattle.dg_model.specs.Tables.{Table, empty_table, lowest_free}
use Rattle.dg_model.specs.declared.members.MemberState.{MemberState}
use Rattle.dg_model.specs.declared.members.MemberState.TheVariants.{Good, Out}
use Rattle.dg_model.specs.declared.events.Event.{Event}
use Rattle.dg_model.specs.declared.events.Event.TheVariants.{Array, Fail, Read, Write}
use Rattle.dg_model.specs.declared.replies.Reply.{Reply}
use Rattle.dg_model.specs.declared.replies.Reply.TheVariants.{Degraded, Done, Unavailable}
use Rattle.dg_model.proofs.FirstSites.{first_sited, first_table}
use Rattle.dg_text.specs.Lines.{AreInPlace, input_of}
use Rattle.dg_text.specs.Replies.{output_of}
use Rattle.dg_uses.specs.Replays.{HasReplayed, NeverFailed}
use Rattle.dg_uses.specs.Views.{Core, View, Views, blank_core, has_lost_in}
use Rattle.dg_uses.specs.declared.replays.Replay.{Replay}
use Rattle.dg_uses.proofs.Lines.{OneInput, prints}
use Rattle.dg_uses.proofs.Ran.{ran_views}
use Rattle.dg_uses.proofs.Rows.{IsHere, one_byte, shape_here, shape_is}

-- ---- cores

abbrev empty : Core
empty = blank_core shape_here

-- block 3 stands on boundary 3
abbrev table_3 : Table
table_3 = first_table (empty_table shape_here) 3

abbrev without : ℕ → (ℕ → MemberState) → ℕ → MemberState
without k members q = if q == k then Out else members q

abbrev core_aa : Core
core_aa = record { table = table_3; blocks = slice_set empty.blocks 3 (padded 1024 (170 ∷ [])); members = empty.members }

abbrev core_one : Core
core_one = record core_aa { members = without 6 core_aa.members }

abbrev core_none : Core
core_none = record core_one { members = without 7 core_one.members }

-- ---- views

sited_3 : IsSited (empty_table shape_here) 3 table_3
unfolding lowest_free
sited_3 = first_sited (empty_table shape_here) 3 (omega arith) refl (omega arith) (omega arith)

whole : has_lost_in empty ≡ false
whole = refl

write_view : View empty (Write 3 (170 ∷ [])) Done core_aa
write_view = (omega arith, whole, record { sited = sited_3; blocks = refl; members = refl })

good_is_not_out : (state : MemberState) → state ≡ Good → state ≢ Out
good_is_not_out state good e = false≢true (sym (ap is_good e) ∙ ap is_good good)

struck : (k : ℕ) (members : ℕ → MemberState) → without k members k ≡ Out → IsStruck k members (without k members)
struck k members out = record { out = out; others = λ p other. inl (cond-false (p == k) Out (members p) (ne_eqb p k other)) }

one_view : View core_aa (Fail 3 0) Done core_one
one_view = (
  record { boundary = omega arith; side = omega arith },
  good_is_not_out (core_aa.members 6) refl,
  record { members = struck 6 core_aa.members refl; rest = refl },
)

none_view : View core_one (Fail 3 1) Done core_none
none_view = (
  record { boundary = omega arith; side = omega arith },
  good_is_not_out (core_one.members 7) refl,
  record { members = struck 7 core_one.members refl; rest = refl },
)

read_view : View core_none (Read 3) Unavailable core_none
unfolding lowest_free
read_view = (omega arith, refl, refl)

refused_view : View core_none (Write 2 (0 ∷ [])) Degraded core_none
refused_view = (omega arith, refl, refl)

-- ---- the replay

abbrev lost : List Event
lost = Write 3 (170 ∷ []) ∷ Fail 3 0 ∷ Fail 3 1 ∷ Read 3 ∷ Write 2 (0 ∷ []) ∷ []

abbrev lost_replies : List Reply
lost_replies = Done ∷ Done ∷ Done ∷ Unavailable ∷ Degraded ∷ []

lost_views : Views empty lost lost_replies core_none
lost_views = (core_aa, write_view, (core_one, one_view, (core_none, none_view, (core_none, read_view, (core_none, refused_view, refl)))))

lost_placed : AreInPlace (Array shape_here ∷ lost)
lost_placed = (
  shape_is,
  All-cons IsHere (Write 3 (170 ∷ [])) (Fail 3 0 ∷ Fail 3 1 ∷ Read 3 ∷ Write 2 (0 ∷ []) ∷ []) (omega arith, omega arith, one_byte 170 (omega arith))
      (All-cons IsHere (Fail 3 0) (Fail 3 1 ∷ Read 3 ∷ Write 2 (0 ∷ []) ∷ []) (omega arith, omega arith)
      (All-cons IsHere (Fail 3 1) (Read 3 ∷ Write 2 (0 ∷ []) ∷ []) (omega arith, omega arith)
      (All-cons IsHere (Read 3) (Write 2 (0 ∷ []) ∷ []) (omega arith)
      (All-cons IsHere (Write 2 (0 ∷ [])) [] (omega arith, omega arith, one_byte 0 (omega arith)) (All-nil IsHere))))),
)

lost_text : codes "array 1024 64 4 32 2\nwrite 3 aa\nfail 3 0\nfail 3 1\nread 3\nwrite 2 00\n" ≡ input_of (Array shape_here ∷ lost)
unfolding digits encode_with
lost_text = refl

lost_output : output_of (Done ∷ lost_replies) ≡ codes "ok\nok\nok\nok\nunavailable\ndegraded\n"
lost_output = refl

pub prints_lost : OneInput → (end : Replay)
    → HasReplayed (codes "array 1024 64 4 32 2\nwrite 3 aa\nfail 3 0\nfail 3 1\nread 3\nwrite 2 00\n") end → NeverFailed end
    → taken_in end.sink ≡ codes "ok\nok\nok\nok\nunavailable\ndegraded\n"
prints_lost one end did never =
    prints one shape_here lost lost_replies lost_placed (codes "array 1024 64 4 32 2\nwrite 3 aa\nfail 3 0\nfail 3 1\nread 3\nwrite 2 00\n") lost_text
    end (λ replies run. ran_views (Unit {0}) (told_in end.rack) shape_here lost replies lost_replies core_none run lost_views) did never
    ∙ lost_output
