use Rattle.std.proofs.Common.{◌≡◌, ◌∙◌, Some, refl, false, true, ap}
use Rattle.std.specs.Prelude.{not, slice_get}
use Rattle.std.specs.Option.{is_some}
use Rattle.ufs_check.proofs.NameLaws.{distinct_all, distinct_next, distinct_none, distinct_passed, met_before, met_never, met_next, met_none, met_passed, met_same}
use Rattle.ufs_check.proofs.OwnedLaws.{owned_read}
use Rattle.ufs_check.proofs.names.has_same_names.Goals as goal

pub loop-entry-init : goal.loop-entry-init
loop-entry-init c = record {
  met = λ q. rw c.new-names.ensures.empty (met_none c.args.entries.now q.now);
  distinct = distinct_none c.args.entries.now;
}

pub loop-entry-preserved-then-is_none : goal.loop-entry-preserved-then-is_none
loop-entry-preserved-then-is_none c =
    let entries = c.args.entries.now in
    let index = c.loop-entry.entry-index in
    let item = c.entry-item.result in
    let here : slice_get c.args.entries.now c.loop-entry.entry-index ≡ Some c.entry-item.result = owned_read entries index item c.loop-entry-test.true c.entry-item.is in
    let none : is_some c.entry-item.result.named ≡ false = c.is_none.ensures ∙ ap not c.if-is_none.true in
    record {
      met = λ q. met_passed entries index item q.now _ here none (c.loop-entry.invariant.met q);
      distinct = distinct_passed entries index item here none c.loop-entry.invariant.distinct;
    }

pub loop-entry-preserved : goal.loop-entry-preserved
loop-entry-preserved c =
    let entries = c.args.entries.now in
    let index = c.loop-entry.entry-index in
    let item = c.entry-item.result in
    let key = c.as_slice.ensures.value in
    let here : slice_get c.args.entries.now c.loop-entry.entry-index ≡ Some c.entry-item.result = owned_read entries index item c.loop-entry-test.true c.entry-item.is in
    let some : is_some c.entry-item.result.named ≡ true = c.is_none.ensures ∙ ap not c.if-is_none.false in
    record {
      met = λ q. met_next entries index item q.now c.as_slice.result.now _ _ here some key (c.in-Ok.ensures.updates.0 q) (c.loop-entry.invariant.met q);
      distinct = distinct_next entries index item here
          (met_never entries index c.as_slice.result.now item.name.items _ _ key c.in-Ok.ensures.added c.if-not-added.false (c.loop-entry.invariant.met c.as_slice.result)) c.loop-entry.invariant.distinct;
    }

pub returns-then-not-added : goal.returns-then-not-added
returns-then-not-added c =
    let entries = c.args.entries.now in
    let index = c.loop-entry.entry-index in
    let item = c.entry-item.result in
    let here : slice_get c.args.entries.now c.loop-entry.entry-index ≡ Some c.entry-item.result = owned_read entries index item c.loop-entry-test.true c.entry-item.is in
    let some : is_some c.entry-item.result.named ≡ true = c.is_none.ensures ∙ ap not c.if-is_none.false in (
      λ h. met_same entries index item here some
          (met_before entries index c.as_slice.result.now item.name.items _ _ c.as_slice.ensures.value c.in-Ok.ensures.added c.if-not-added.true (c.loop-entry.invariant.met c.as_slice.result)),
      λ h. refl,
    )

pub returns : goal.returns
returns c = (λ h. absurd (let no : false ≡ true = h in cc), λ h. absurd (distinct_all c.args.entries.now c.loop-entry.entry-index c.loop-entry-test.false c.loop-entry.invariant.distinct h))
