use Rattle.std.proofs.Common.{◌≡◌, ℕ, arith, length, refl, rules, sym, subst}
use Rattle.dg_io.specs.RackCalls.RackCall.{calls}
use Rattle.dg_io.specs.Told.{Reads}
use Rattle.dg_regroup.specs.FrontRacks.{front_of, is_front}
use Rattle.dg_regroup.proofs.FrontBytes.{Covers, ok_more, reads_shown, told_shown}
use Rattle.dg_regroup.proofs.FrontCalls.{passed_as, spared}
use Rattle.dg_regroup.proofs.front_racks.FrontRackRack.read.Goals as goal

pub returns-clause-ok : goal.returns-clause-ok
returns-clause-ok g c =
    let it = c.args.self.now in
    let size : length c.read.new.buf ≡ length c.args.buf.now = search rules in
    ok_more _ _ c.read.result
    (told_shown (is_front it c.args.member) it.length (Covers c.args.place (length c.args.buf.now)) (Reads c.args.place c.read.new.buf)
    (λ b a covers. reads_shown it.length c.args.place c.read.new.buf b a (subst (λ (n : ℕ). Covers c.args.place n (front_of it.length b)) (sym size) covers))
    (g.R.Rack.bytes it.rack c.args.member) (g.R.Rack.bytes c.read.new.self c.args.member) c.requires.range)
    c.read.ensures.ok

pub returns-clause-made : goal.returns-clause-made
returns-clause-made g c =
    passed_as g.R.Rack (calls c.args.member) (calls c.args.member) refl c.args.self.now _ refl refl (λ q. omega arith) (λ q far. refl) (omega arith) (λ is. refl) (λ is. refl) (λ is. refl) (λ is. refl)
    (λ is q front. spared c.args.member _ _ c.read.ensures.leaves.others c.read.ensures.same q) c.read.ensures.made
