use Rattle.std.proofs.Common.{◌≡◌, ◌/◌, refl, sym, ◌∙◌}
use Rattle.dg_model.proofs.RowLaws.{same_from_test}
use Rattle.dg_map.specs.Bits.{bit_in}
use Rattle.dg_map.proofs.BitLemmas.{removed, some_from_test, sums_clear, sums_stay, word_some}
use Rattle.dg_map.proofs.bits.Bits.remove.Goals as goal

pub returns-then-not-clear_bit : goal.returns-then-not-clear_bit
returns-then-not-clear_bit c =
    let old = c.args.self.now in
    let there : bit_in old.words.items c.args.number ≡ 1 = same_from_test _ _ c.requires.there in
    let left = some_from_test _ (sym c.clear_bit.ensures.none ∙ c.if-not-clear_bit.true) in
    removed old _ c.args.number c.requires.sound refl c.clear_bit.ensures.cleared refl refl
    (sums_stay old.words.items _ old.groups.items old.groups.items c.args.number c.requires.sound.grouped there c.clear_bit.ensures.cleared left)
    c.requires.sound.topped

pub returns-then-not-clear_bit-2 : goal.returns-then-not-clear_bit-2
returns-then-not-clear_bit-2 c =
    let old = c.args.self.now in
    let there : bit_in old.words.items c.args.number ≡ 1 = same_from_test _ _ c.requires.there in
    let none = same_from_test _ _ (sym c.clear_bit.ensures.none ∙ c.if-not-clear_bit.false) in
    let left = some_from_test _ (sym c.clear_bit-2.ensures.none ∙ c.if-not-clear_bit-2.true) in
    let group = c.requires.sound.grouped.up _ (word_some old.words.items c.args.number there) in
    removed old _ c.args.number c.requires.sound refl c.clear_bit.ensures.cleared c.clear_bit-2.ensures.cleared.same_length refl
    (sums_clear old.words.items _ old.groups.items _ c.args.number c.requires.sound.grouped c.clear_bit.ensures.cleared none c.clear_bit-2.ensures.cleared)
    (sums_stay old.groups.items _ old.tops.items old.tops.items (c.args.number / 64) c.requires.sound.topped group c.clear_bit-2.ensures.cleared left)

pub returns : goal.returns
returns c =
    let old = c.args.self.now in
    let none = same_from_test _ _ (sym c.clear_bit.ensures.none ∙ c.if-not-clear_bit.false) in
    let none_left = same_from_test _ _ (sym c.clear_bit-2.ensures.none ∙ c.if-not-clear_bit-2.false) in
    removed old _ c.args.number c.requires.sound refl c.clear_bit.ensures.cleared c.clear_bit-2.ensures.cleared.same_length c.clear_bit-3.ensures.cleared.same_length
    (sums_clear old.words.items _ old.groups.items _ c.args.number c.requires.sound.grouped c.clear_bit.ensures.cleared none c.clear_bit-2.ensures.cleared)
    (sums_clear old.groups.items _ old.tops.items _ (c.args.number / 64) c.requires.sound.topped c.clear_bit-2.ensures.cleared none_left c.clear_bit-3.ensures.cleared)
