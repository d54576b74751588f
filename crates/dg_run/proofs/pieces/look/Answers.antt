use Rattle.std.proofs.Common.{◌≡◌, ℕ, List, take, drop, ◌++◌, ◌∷◌, ◌+◌, ◌≢◌, arith, subst, rules}
use Rattle.std.proofs.lemmas.List.Elements.{All-take}
use Rattle.dg_run.specs.Bytes.{HasNoLineFeed}
use Rattle.dg_run.proofs.LineFeeds.{none_behind, none_shorter, none_whole, found_behind}
use Rattle.dg_run.proofs.pieces.look.Goals as goal

pub returns-in-Some : goal.returns-in-Some
returns-in-Some c =
    let rest : c.split_at.result.1.now ≡ drop c.args.seen c.args.bytes.now = search rules in
    let i = c.in-Some.i in
    let found = subst (λ (l : List ℕ). l ≡ take i l ++ 10 ∷ drop (i + 1) l) rest c.in-Some.ensures.found in
    let first = subst (λ (l : List ℕ). HasNoLineFeed (take i l)) rest c.in-Some.ensures.first in
    let within = c.in-Some.ensures.within in (
      omega arith,
      omega (arith, rest),
      found_behind c.args.bytes.now c.args.seen i found,
      none_behind c.args.bytes.now c.args.seen i c.requires.none first,
    )

pub returns-in-Some-2 : goal.returns-in-Some-2
returns-in-Some-2 c =
    let rest : c.split_at.result.1.now ≡ drop c.args.seen c.args.bytes.now = search rules in
    let i = c.in-Some.i in
    let first = subst (λ (l : List ℕ). HasNoLineFeed (take i l)) rest c.in-Some.ensures.first in
    let within = c.in-Some.ensures.within in (
      omega arith,
      none_shorter c.args.bytes.now c.args.limit (c.args.seen + i) (omega arith) (none_behind c.args.bytes.now c.args.seen i c.requires.none first),
    )

pub returns-in-None : goal.returns-in-None
returns-in-None c =
    let rest : c.split_at.result.1.now ≡ drop c.args.seen c.args.bytes.now = search rules in
    let none = subst HasNoLineFeed rest c.in-None.ensures.none in
    (omega arith, none_whole c.args.bytes.now c.args.seen c.requires.none none)

pub returns-in-None-2 : goal.returns-in-None-2
returns-in-None-2 c =
    let rest : c.split_at.result.1.now ≡ drop c.args.seen c.args.bytes.now = search rules in
    let none = subst HasNoLineFeed rest c.in-None.ensures.none in
    (omega arith, All-take (λ (x : ℕ). x ≢ 10) c.args.limit c.args.bytes.now (none_whole c.args.bytes.now c.args.seen c.requires.none none))
