use Rattle.std.proofs.Common.{◌≡◌, ◌∙◌, ◌+◌, ◌<◌, ◌/◌, ◌++◌, ◌∷◌, ℕ, List, [], ap, arith, false, length, length-append, subst, sym, true}
use Rattle.dg_io.specs.Commits.{is_marked}
use Rattle.dg_io.specs.Reduced.{member_before, places_left}
use Rattle.dg_label.proofs.PlaceLaws.{AreBitsLeft, bits_one, left_one, left_same}
use Rattle.dg_label.proofs.places.bits_left.Goals as goal
use Rattle.dg_label.proofs.places.bits_left.Goals.{then-is_left, else-is_left}

pub loop-boundary-preserved : goal.loop-boundary-preserved
loop-boundary-preserved c =
    let old = c.loop-boundary.invariant in
    let n = c.loop-boundary.boundary in
    let left : List ℕ = places_left c.args.lost n in
    elim c.if-is_left.branch [
      | then-is_left w ↦
          let next : places_left c.args.lost (n + 1) ≡ left ++ n ∷ [] = left_one c.args.lost n (sym c.is_left.ensures ∙ w.if-is_left.true) in
          let size : length (places_left c.args.lost (n + 1)) ≡ length (left ++ n ∷ []) = ap length next in
          let more = length-append left (n ∷ []) in
          let was = old.place in
          let now = w.place-is in
          let low = old.low in
          let e = rw old.place at w.copied_pair-kept.ensures in
          record {
            place = omega (arith, size, more, was, now);
            low = omega (arith, low, now);
            bits = subst (λ (xs : List ℕ). AreBitsLeft c.args.bits xs c.if-is_left.kept) (sym next)
                (subst (λ (k : ℕ). AreBitsLeft c.args.bits (left ++ n ∷ []) k) (sym w.kept-is)
                (bits_one c.args.bits c.loop-boundary.kept w.copied_pair-kept.result n left old.bits e.first e.second e.others));
          }
      | else-is_left w ↦
          let next : places_left c.args.lost (n + 1) ≡ left = left_same c.args.lost n (sym c.is_left.ensures ∙ w.if-is_left.false) in
          let size : length (places_left c.args.lost (n + 1)) ≡ length left = ap length next in
          let was = old.place in
          let now = w.place-is in
          let low = old.low in
          record {
            place = omega (arith, size, was, now);
            low = omega (arith, low, now);
            bits = subst (λ (xs : List ℕ). AreBitsLeft c.args.bits xs c.if-is_left.kept) (sym next)
                (subst (λ (k : ℕ). AreBitsLeft c.args.bits left k) (sym w.kept-is) old.bits);
          }
    ]

pub returns : goal.returns
returns c =
    let end : c.loop-boundary.boundary ≡ c.args.boundaries = omega arith in
    subst (λ (n : ℕ). (q : ℕ) → q / 2 < length (places_left c.args.lost n) → is_marked c.loop-boundary.kept q ≡ is_marked c.args.bits (member_before (places_left c.args.lost n) q))
    end c.loop-boundary.invariant.bits.set
