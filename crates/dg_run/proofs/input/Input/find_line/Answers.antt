use Rattle.std.proofs.Common.{◌≡◌, ℕ, List, ◌+◌, ◌++◌, ◌∷◌, ◌≤◌, length, take, drop, subst, arith}
use Rattle.dg_run.specs.Bytes.{HasNoLineFeed}
use Rattle.dg_run.specs.Inputs.{unread}
use Rattle.dg_run.proofs.ToldSteps.{Told-line, Told-full}
use Rattle.dg_run.proofs.input.Input.find_line.Goals as goal

pub returns-in-Found-clause-took : goal.returns-in-Found-clause-took
returns-in-Found-clause-took c left =
    let self = c.args.self.now in
    let n = c.in-Found.n in
    let is = subst (λ (l : List ℕ). l ≡ take n l ++ 10 ∷ drop (n + 1) l) c.waiting.ensures c.in-Found.ensures.2 in
    Told-line self.bytes.items self.at self.end n left (omega arith) is

pub returns-in-Unended-clause-took : goal.returns-in-Unended-clause-took
returns-in-Unended-clause-took c left =
    let self = c.args.self.now in
    let limit = c.args.limit in
    let within = subst (λ (l : List ℕ). limit ≤ length l) c.waiting.ensures c.in-Unended.ensures.0 in
    let none = subst (λ (l : List ℕ). HasNoLineFeed (take limit l)) c.waiting.ensures c.in-Unended.ensures.1 in
    Told-full (unread self) limit left within none
