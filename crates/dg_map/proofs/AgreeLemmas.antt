-- How the slots of a boundary go on agreeing with the table, once both have changed.
use Rattle.std.proofs.Common.{◌≡◌, ◌<◌, ◌+◌, ◌==◌, ◌≢◌, ℕ, cond, length, Option, Some, None, refl, sym, ◌∙◌, ap, subst, ⊎_elim, arith}
use Rattle.std.proofs.lemmas.Bool.{cases_eq}
use Rattle.dg_model.specs.declared.sites.Site.{Site}
use Rattle.dg_model.specs.declared.shapes.Shape.{Shape}
use Rattle.dg_map.specs.declared.boundary_slots.Slots.{Slots}
use Rattle.dg_map.specs.Maps.{Agrees}
use Rattle.dg_map.specs.Slots.{GivesUp, IsUnused, Puts, block_in}
use Rattle.dg_model.specs.Tables.{IsFree, IsTable, StandsIn, Table, count_on, empty_table, put_site, sites_in, without_site}
use Rattle.dg_model.proofs.PutLaws.{none_stands, used_empty, put_cases, put_here, put_kept, site_at, used_put, used_without_here, used_without_other, without_apart, without_kept, without_stood}
use Rattle.dg_model.proofs.RowLaws.{one_on}
use Rattle.dg_model.proofs.SiteLists.{apart_test, one_if, same_test, zero_if}

pub not_both : (o : Option ℕ) (b : ℕ) → o ≡ None → o ≡ Some b → ⊥
not_both o b none some = cc

pub same_some : (a b : ℕ) → ◌≡◌ {A = Option ℕ} (Some a) (Some b) → a ≡ b
same_some a b e = cc

-- what a test gives where the numbers are the same, and where they aren't
pub cond_same : (k q : ℕ) (x y : Option ℕ) → k ≡ q → cond (k == q) x y ≡ x
cond_same k q x y e = ap (λ v. cond v x y) (same_test k q e)

pub cond_apart : (k q : ℕ) (x y : Option ℕ) → k ≢ q → cond (k == q) x y ≡ y
cond_apart k q x y ne = ap (λ v. cond v x y) (apart_test k q ne)

-- no slot is used, and no block has a site
pub agrees_empty : (shape : Shape) (s : ℕ) (slots : Slots) → IsUnused (shape.k + 1) slots → Agrees (empty_table shape) s slots
agrees_empty shape s slots unused = record {
  sound = unused.sound;
  most = unused.most_is;
  used = unused.count ∙ sym (used_empty shape s);
  held = λ k b e. absurd (not_both (block_in slots k) b (unused.empty k) e);
  found = λ k b h. absurd (none_stands shape b s k h);
}

-- a slot with no block is free
pub free_slot : (table : Table) (s : ℕ) (slots : Slots) (slot : ℕ) → Agrees table s slots → block_in slots slot ≡ None → IsFree table s slot
free_slot table s slots slot agrees none = λ b h. not_both (block_in slots slot) b none (agrees.found slot b h)

module _ (table : Table) (b : ℕ) (within : b < length table.rows) where
  pub agrees_put : (s : ℕ) (old new : Slots) (site : Site) → site.boundary ≡ s → Agrees table s old → Puts old new site.slot b → Agrees (put_site table b site) s new
  agrees_put s old new site here agrees puts = record {
    sound = puts.sound;
    most = puts.most ∙ agrees.most;
    used = omega (arith, puts.count, agrees.used, used_put table b site within s, one_if (site.boundary == s) (same_test site.boundary s here));
    held = λ k d e.
        ⊎_elim
        (λ same. stands k d same (same_some b d (sym (cond_same site.slot k (Some b) (block_in old k) same) ∙ sym (puts.blocks k) ∙ e)))
        (λ apart. put_kept table b site within d s k (agrees.held k d (sym (cond_apart site.slot k (Some b) (block_in old k) apart) ∙ sym (puts.blocks k) ∙ e)))
        (cases_eq site.slot k);
    found = λ k d h.
        ⊎_elim
        (λ old_one. puts.blocks k ∙ cond_apart site.slot k (Some b) (block_in old k) (λ same. not_both (block_in old k) d (ap (block_in old) (sym same) ∙ puts.free) (agrees.found k d old_one)) ∙ agrees.found k d old_one)
        (λ new_one. puts.blocks k ∙ cond_same site.slot k (Some b) (block_in old k) (ap (λ (x : Site). x.slot) new_one.1) ∙ ap (λ c. Some c) (sym new_one.0))
        (put_cases table b site within d s k h);
  }
    where
      stands : (k d : ℕ) → site.slot ≡ k → b ≡ d → StandsIn (put_site table b site) d s k
      stands k d same owner =
          subst (λ c. StandsIn (put_site table b site) c s k) owner
          (subst (λ t. StandsIn (put_site table b site) b t k) here
          (subst (λ q. StandsIn (put_site table b site) b site.boundary q) same (put_here table b site within)))

  pub agrees_put_apart : (s : ℕ) (slots : Slots) (site : Site) → site.boundary ≢ s → Agrees table s slots → Agrees (put_site table b site) s slots
  agrees_put_apart s slots site apart agrees = record {
    sound = agrees.sound;
    most = agrees.most;
    used = omega (arith, agrees.used, used_put table b site within s, zero_if (site.boundary == s) (apart_test site.boundary s apart));
    held = λ k d e. put_kept table b site within d s k (agrees.held k d e);
    found = λ k d h.
        ⊎_elim
        (λ old. agrees.found k d old)
        (λ new. absurd (apart (ap (λ (x : Site). x.boundary) new.1)))
        (put_cases table b site within d s k h);
  }

  pub agrees_without : (s slot : ℕ) (old new : Slots) → IsTable table → StandsIn table b s slot → count_on s (sites_in table b) ≡ 1 → Agrees table s old → GivesUp old new slot → Agrees (without_site table b s) s new
  agrees_without s slot old new ok stood one agrees gives = record {
    sound = gives.sound;
    most = gives.most ∙ agrees.most;
    used = omega (arith, gives.count, agrees.used, used_without_here table b s within);
    held = λ k d e.
        ⊎_elim
        (λ same. absurd (not_both (block_in new k) d (gives.blocks k ∙ cond_same slot k None (block_in old k) same) e))
        (λ apart.
        let before : StandsIn table d s k = agrees.held k d (sym (cond_apart slot k None (block_in old k) apart) ∙ sym (gives.blocks k) ∙ e) in
        without_kept table b s within d s k before (λ owner. absurd (apart (same_slot k (subst (λ c. StandsIn table c s k) owner before)))))
        (cases_eq slot k);
    found = λ k d h.
        let before : block_in old k ≡ Some d = agrees.found k d (without_stood table b s within d s k h) in
        gives.blocks k ∙ cond_apart slot k None (block_in old k) (λ same. gone k d h same) ∙ before;
  }
    where
      same_slot : (k : ℕ) → StandsIn table b s k → slot ≡ k
      same_slot k h = ap (λ (x : Site). x.slot) (one_on s (sites_in table b) (site_at s slot) (site_at s k) (omega arith) stood h refl refl)

      gone : (k d : ℕ) → StandsIn (without_site table b s) d s k → slot ≡ k → ⊥
      gone k d h same =
          let owner : d ≡ b = ok.one_block d b s k (without_stood table b s within d s k h) (subst (λ q. StandsIn table b s q) same stood) in
          without_apart table b s within k (subst (λ c. StandsIn (without_site table b s) c s k) owner h)

  pub agrees_without_apart : (s t : ℕ) (slots : Slots) → s ≢ t → Agrees table t slots → Agrees (without_site table b s) t slots
  agrees_without_apart s t slots apart agrees = record {
    sound = agrees.sound;
    most = agrees.most;
    used = agrees.used ∙ sym (used_without_other table b s within t apart);
    held = λ k d e. without_kept table b s within d t k (agrees.held k d e) (λ _ same. apart (sym same));
    found = λ k d h. agrees.found k d (without_stood table b s within d t k h);
  }
