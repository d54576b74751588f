-- A gone block stays gone while the store is read.
use Rattle.std.proofs.Common.{◌≡◌, ℕ, ◌+◌, ◌*◌, ◌-◌, ◌^◌, ◌≤◌, Bool, true, false, cond, [], ◌∷◌, length, refl, sym, ◌∙◌, ap, subst, arith}
use Rattle.std.specs.Prelude.{◌↔◌, count_by, min, not}
use Rattle.std.proofs.lemmas.Bool.{and_parts, and_from, false≢true}
use Rattle.std.proofs.lemmas.List.Sums.{sum_by-cons}
use Rattle.dg_io.specs.declared.outside.Rack.{Ghosts}
use Rattle.dg_io.specs.declared.views.Fetched.{Fetched}
use Rattle.dg_io.specs.declared.views.Fetched.TheVariants.{Got, Gone}
use Rattle.dg_model.specs.Members.{MembersFall}
use Rattle.dg_model.specs.Sites.{has_site, all_lost, is_gone}
use Rattle.dg_model.specs.Tables.{Table, sites_in}
use Rattle.dg_model.specs.declared.members.MemberState.{MemberState}
use Rattle.dg_store.specs.declared.store.Store.{Store}
use Rattle.dg_store.specs.Leaves.{CallsAtMost, HasCalled, NoFault}
use Rattle.dg_store.specs.ReadLaws.{all_stay}
use Rattle.dg_store.specs.Stores.{members_of, rack_of, table_of}
use Rattle.dg_store.specs.Views.{Fetches, ReadsOn, is_given, is_written}

-- a gone block stays gone
pub gone_stays : (f g : ℕ → ℕ) (was now : Table) (old new : ℕ → MemberState) (b : ℕ) → now ≡ was → MembersFall f g old new → is_gone was old b ≡ true → is_gone now new b ≡ true
gone_stays f g was now old new b same falls gone =
    let parts = and_parts (has_site (sites_in was b)) (all_lost old (sites_in was b)) gone in
    subst (λ (t : Table). is_gone t new b ≡ true) (sym same)
    (and_from (has_site (sites_in was b)) (all_lost new (sites_in was b)) parts.0 (all_stay f g old new (sites_in was b) falls parts.1))

-- ---- the fetch of one block

one_block : (p : ℕ → Bool) (b : ℕ) → count_by p (b ∷ []) ≡ cond (p b) 1 0
one_block p b = omega (arith, sum_by-cons (λ (x : ℕ). cond (p x) 1 0) b [], cond_fits (p b))
  where
    cond_fits : (x : Bool) → cond {A = ℕ} x 1 0 ≤ 1
    cond_fits true = omega arith
    cond_fits false = omega arith

pub fetched_one : {R : Type 0} (rack : Ghosts R) (old new : Store R) (b : ℕ) (result : Fetched) → ReadsOn rack old new
    → (result ≡ Gone) ↔ (is_gone (table_of new) (members_of new) b ≡ true)
    → (result ≡ Got → has_site (sites_in (table_of old) b) ≡ true → HasCalled rack old new)
    → (has_site (sites_in (table_of old) b) ≡ false → rack_of new ≡ rack_of old)
    → CallsAtMost rack old new (2 * length (sites_in (table_of old) b))
    → (NoFault rack old new → CallsAtMost rack old new 1)
    → Fetches rack old (b ∷ []) new
fetched_one {R} rack old new b result reads gone called unwritten most once = record {
  table = reads.table;
  falls = reads.keeps.falls;
  later = reads.keeps.stays.rise.faults;
  rose = omega (arith, one_block (is_given (table_of old) (members_of new)) b, by_given (is_given (table_of old) (members_of new) b) refl);
  most = omega (arith, most, sum_by-cons (λ (x : ℕ). length (sites_in (table_of old) x)) b []);
  few = λ none. omega (arith, one_block (is_written (table_of old)) b, by_written (is_written (table_of old) b) refl none);
}
  where
    calls : ℕ
    calls = (rack.counts (rack_of old)).calls

    after : ℕ
    after = (rack.counts (rack_of new)).calls

    got : (r : Fetched) → (r ≡ Gone → ⊥) → r ≡ Got
    got Got never = refl
    got Gone never = absurd (never refl)

    by_given : (x : Bool) → is_given (table_of old) (members_of new) b ≡ x → min (calls + cond x 1 0) (2 ^ 64 - 1) ≤ after
    by_given false is = let rise = reads.keeps.stays.rise.calls in omega arith
    by_given true is =
        let parts = and_parts (is_written (table_of old) b) (not (all_lost (members_of new) (sites_in (table_of old) b))) is in
        let stands : result ≡ Gone → ⊥ = λ lost.
        let both = and_parts (has_site (sites_in (table_of new) b)) (all_lost (members_of new) (sites_in (table_of new) b)) (gone.0 lost) in
        absurd (false≢true (sym (ap not (sym (ap (λ (t : Table). all_lost (members_of new) (sites_in t b)) reads.table) ∙ both.1)) ∙ parts.1)) in
        let rose = called (got result stands) parts.0 in
        omega arith

    by_written : (x : Bool) → is_written (table_of old) b ≡ x → NoFault rack old new → after ≤ calls + cond x 1 0
    by_written false is none = let same = ap (λ (r : R). (rack.counts r).calls) (unwritten is) in omega arith
    by_written true is none = once none
