use Rattle.std.proofs.Common.{◌≡◌, ◌∙◌, ◌++◌, ◌∷◌, [], ℕ, List, Err, get_or, ap, arith, rules}
use Rattle.std.specs.List.{All}
use Rattle.std.proofs.lemmas.List.{take_all}
use Rattle.std.proofs.lemmas.List.Elements.{All-more}
use Rattle.ufs_build.specs.Items.{HasShortName, HasSlash, parents_of}
use Rattle.ufs_build.specs.declared.items.Item.{Item}
use Rattle.ufs_build.proofs.ParentLaws.{IsAt, ends, goes_on, is_at, starts, stops}
use Rattle.ufs_build.proofs.parents.parents_of.Goals as goal

pub loop-k-init : goal.loop-k-init
loop-k-init c = record {
  found = starts c.args.items.now _ c.new-parents.ensures.items;
  names = λ k d low. absurd (omega arith);
  slashes = λ k d low. absurd (omega arith);
}

at_more : (P : Item → Type 0) (items before : List Item) (item : Item) (k : ℕ) → IsAt items k before item → P item → P (get_or items k item)
at_more P items before item k at h = rw (← at.here) h

pub returns-in_default-clause-bad : goal.returns-in_default-clause-bad
unfolding parents_of
returns-in_default-clause-bad c =
    let at = is_at c.args.items.now c.split_at.result.0.now c.split_at.result.1.now c.index-rest-0.result c.loop-k.k c.loop-k-test.true
    c.split_at.ensures.front c.split_at.ensures.back c.index-rest-0.is in
    λ k e. let same : c.loop-k.k ≡ k = cc in
    stops c.args.items.now _ c.index-rest-0.result c.loop-k.k _ at (c.in_default.ensures.value) c.loop-k.invariant.found ∙ ap Err same

pub loop-k-preserved : goal.loop-k-preserved
loop-k-preserved c =
    let at = is_at c.args.items.now c.split_at.result.0.now c.split_at.result.1.now c.index-rest-0.result c.loop-k.k c.loop-k-test.true
    c.split_at.ensures.front c.split_at.ensures.back c.index-rest-0.is in
    let pushed : c.push.new.self.items ≡ c.loop-k.parents.items ++ c.in-Some.parent ∷ [] = search rules in
    record {
      found = goes_on c.args.items.now _ c.index-rest-0.result c.loop-k.k c.in-Some.parent _ _ at (c.in-Some.ensures.value) pushed c.loop-k.invariant.found;
      names = All-more HasShortName c.args.items.now c.loop-k.k c.index-rest-0.result c.loop-k-test.true c.loop-k.invariant.names
          (at_more HasShortName c.args.items.now _ c.index-rest-0.result c.loop-k.k at (c.in-Some.ensures.short));
      slashes = All-more HasSlash c.args.items.now c.loop-k.k c.index-rest-0.result c.loop-k-test.true c.loop-k.invariant.slashes
          (at_more HasSlash c.args.items.now _ c.index-rest-0.result c.loop-k.k at (c.in-Some.ensures.slash));
    }

pub returns-clause-found : goal.returns-clause-found
unfolding parents_of
returns-clause-found c = ends c.args.items.now c.loop-k.k _ c.loop-k-test.false c.loop-k.invariant.found

pub returns-clause-names : goal.returns-clause-names
returns-clause-names c =
    let all = take_all c.loop-k.k c.args.items.now c.loop-k-test.false in
    let names : All HasShortName c.args.items.now = rw (← all) c.loop-k.invariant.names in names

pub returns-clause-slashes : goal.returns-clause-slashes
returns-clause-slashes c =
    let all = take_all c.loop-k.k c.args.items.now c.loop-k-test.false in
    let slashes : All HasSlash c.args.items.now = rw (← all) c.loop-k.invariant.slashes in slashes
