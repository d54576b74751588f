use Rattle.std.proofs.Common.{◌≡◌, ◌∙◌, ◌++◌, ◌+◌, ℕ, suc, List, ap, append_assoc, arith, sym}
use Rattle.std.specs.List.{flat_map, range_with_len}
use Rattle.std.proofs.lemmas.List.{append-nil}
use Rattle.dg_saved.proofs.TextLines.{one_more}
use Rattle.dg_saved.specs.Texts.{boundary_line}
use Rattle.dg_volume.specs.Volumes.{live_of, members_of, table_of}
use Rattle.dg_saved.proofs.texts.push_boundaries.Goals as goal

pub loop-s-init : goal.loop-s-init
loop-s-init g c = sym (append-nil c.args.text.now.items)

pub loop-s-preserved : goal.loop-s-preserved
loop-s-preserved g c =
    let s = c.loop-s.s in
    let line : ℕ → List ℕ = boundary_line (table_of c.args.volume.now) (live_of c.args.volume.now) (members_of c.args.volume.now) in
    let so_far = flat_map line (range_with_len 0 s) in
    let up : s + 1 ≡ suc s = omega arith in
    let next : flat_map line (range_with_len 0 (s + 1)) ≡ so_far ++ line s = ap (λ (n : ℕ). flat_map line (range_with_len 0 n)) up ∙ one_more line 0 s s (omega arith) in
    c.in_ok-push_boundary.ensures
    ∙ ap (λ (l : List ℕ). l ++ line s) c.loop-s.invariant
    ∙ append_assoc c.args.text.now.items so_far (line s)
    ∙ ap (λ (l : List ℕ). c.args.text.now.items ++ l) (sym next)
