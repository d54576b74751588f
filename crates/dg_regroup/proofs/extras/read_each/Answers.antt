use Rattle.std.proofs.Common.{◌≡◌, ◌∙◌, ◌<◌, ◌+◌, ◌^◌, ◌∷◌, [], ℕ, List, get_or, length-append, ap, subst, arith}
use Rattle.std.proofs.lemmas.List.Elements.{All-push}
use Rattle.byteorder.specs.Endian.{little_bytes}
use Rattle.dg_regroup.proofs.ExtraLemmas.{number_more}
use Rattle.dg_regroup.proofs.extras.read_each.Goals as goal

pub loop-place-preserved : goal.loop-place-preserved
loop-place-preserved c =
    let h = c.loop-place.invariant in
    let numbers = c.loop-place.numbers.items in
    let number = c.number_of_four.result in
    let low : c.loop-place.place < c.args.count = omega (arith, c.loop-place-test.true) in
    let small : number < 2 ^ 32 = omega arith in
    let says = subst (λ (xs : List ℕ). little_bytes 4 number ≡ get_or xs 0 0 ∷ get_or xs 1 0 ∷ get_or xs 2 0 ∷ get_or xs 3 0 ∷ []) c.split_at.ensures.back c.number_of_four.ensures in
    rw c.in-Ok.ensures.items (record {
      many = length-append numbers (number ∷ []) ∙ ap (λ (n : ℕ). n + 1) h.many;
      fit = All-push (λ (b : ℕ). b < 2 ^ 32) numbers number h.fit small;
      are = number_more c.args.bytes.now numbers c.loop-place.place number c.args.count c.requires low h.are says;
    })
