-- A write of a part of a page leaves what the members are reopened as.
use Rattle.std.proofs.Common.{◌≡◌, ◌≢◌, ◌≤◌, ◌<◌, ◌+◌, ◌*◌, ◌/◌, ℕ, Bool, true, false, List, sym, ◌∙◌, ap, arith, inl, inr, subst}
use Rattle.std.proofs.lemmas.Bool.{false≢true}
use Rattle.std.specs.Prelude.{not}
use Rattle.dg_io.specs.Told.{Torn}
use Rattle.dg_stop.proofs.Avoiding.{keeps_header, page_avoids}
use Rattle.dg_stop.proofs.Ranges.{torn_back}
use Rattle.dg_stop.proofs.Committing.{guarded_prepared, prepared_fresh, prepared_reopened, prepares_same, same_or_not, torn_prepares}
use Rattle.dg_stop.specs.Headers.{Header, HasHeader, header_table}
use Rattle.dg_stop.specs.Layouts.{names_second, page_place, table_place, table_size}
use Rattle.dg_stop.specs.Changes.{Avoids}
use Rattle.dg_stop.specs.Commits.{AreBelow, AreGuarded, ArePrepared, Prepares}
use Rattle.dg_stop.specs.Stops.{WritesLeaveKept}

-- the place of the page isn't the one that the header of p names
pub page_prepares : (p s q t page k n : ℕ) (second : Bool) (before after : List ℕ) → AreBelow s q before
    → ((h : Header) → HasHeader q before h → h.sequence ≡ p → header_table h ≡ t)
    → ((h : Header) → HasHeader q before h → h.sequence ≡ p → names_second before (table_place (header_table h) p) page ≢ second)
    → k + n ≤ 512 → Torn (page_place t page second + k) n before after → Prepares p s q before after
page_prepares p s q t page k n second before after low same other fits torn =
    torn_prepares p s q (page_place t page second + k) n before after (omega arith) torn low
    (λ h has e. subst (λ (x : ℕ). Avoids h before (page_place x page second + k) n) (same h has e)
    (page_avoids h before page k n second
    (subst (λ (x : ℕ). names_second before (table_place (header_table h) x) page ≢ second) (sym e) (other h has e)) fits))

not_itself : (a b : Bool) → a ≡ b → a ≢ not b
not_itself true true e = λ f. false≢true (sym f)
not_itself false false e = λ f. false≢true f
not_itself true false e = absurd (false≢true (sym e))
not_itself false true e = absurd (false≢true e)

module _ (stands : ℕ → Bool) (sizes : ℕ → ℕ) (room : ℕ) (places : ℕ → ℕ → Bool) (p top q page k n : ℕ) (before after : ℕ → List ℕ)
    (guarded : AreGuarded stands sizes room places p top before) (low : p ≤ top) (stand : stands q ≡ true) (within : 512 * page < sizes q) (fits : k + n ≤ 512)
    (torn : Torn (page_place (table_size (sizes q) room) page (not (places q page)) + k) n (before q) (after q)) (others : (r : ℕ) → r ≢ q → after r ≡ before r) where
  below : (r : ℕ) → AreBelow (top + 1) r (before r)
  below r h has = omega (arith, guarded.seen r h has)

  at_page : 512 * page / 512 ≡ page
  at_page = omega arith

  table_is : (h : Header) → HasHeader q (before q) h → h.sequence ≡ p → header_table h ≡ table_size (sizes q) room
  table_is h has e = ap (λ (x : ℕ). table_size x h.room) (guarded.size q h stand has e) ∙ ap (λ (x : ℕ). table_size (sizes q) x) (guarded.room_is q h stand has e)

  own : Prepares p (top + 1) q (before q) (after q)
  own = page_prepares p (top + 1) q (table_size (sizes q) room) page k n (not (places q page)) (before q) (after q) (below q) table_is
      (λ h has e. not_itself (names_second (before q) (table_place (header_table h) p) page) (places q page)
      (subst (λ (x : ℕ). names_second (before q) (table_place (header_table h) p) x ≡ places q x) at_page
      (guarded.named q h stand has e (512 * page) (omega (arith, within, guarded.size q h stand has e)))))
      fits torn

  pub prepared : ArePrepared stands p (top + 1) before after
  prepared = record {
    standing = λ r is. elim (same_or_not r q) [
      | inl same ↦ subst (λ (x : ℕ). Prepares p (top + 1) x (before x) (after x)) (sym same) own
      | inr other ↦ subst (λ (l : List ℕ). Prepares p (top + 1) r (before r) l) (sym (others r other)) (prepares_same p (top + 1) r (before r) (below r))
    ];
    rest = λ r is. others r (λ same. false≢true (sym is ∙ ap stands same ∙ stand));
  }

  pub seen : (r : ℕ) (h : Header) → HasHeader r (after r) h → h.sequence ≤ top
  seen r h has = elim (same_or_not r q) [
    | inl same ↦ guarded.seen q h (keeps_header q h (page_place (table_size (sizes q) room) page (not (places q page)) + k) n (after q) (before q)
        (torn_back (page_place (table_size (sizes q) room) page (not (places q page)) + k) n (before q) (after q) torn) (inr (omega arith))
        (subst (λ (x : ℕ). HasHeader x (after x) h) same has))
    | inr other ↦ guarded.seen r h (subst (λ (l : List ℕ). HasHeader r l h) (others r other) has)
  ]

  pub guarded_after : AreGuarded stands sizes room places p top after
  guarded_after = guarded_prepared stands sizes room places p top (top + 1) top before after guarded (omega arith) (λ same. absurd (omega (arith, low, same))) prepared seen stands (λ r is. is)

pub writes_leave_kept : WritesLeaveKept
writes_leave_kept stands sizes room places p top q page k n before after guarded low stand within fits torn others fresh kept was = (
  prepared_reopened stands sizes room places p top (top + 1) before after guarded (omega arith)
      (prepared stands sizes room places p top q page k n before after guarded low stand within fits torn others) fresh kept was,
  guarded_after stands sizes room places p top q page k n before after guarded low stand within fits torn others,
  prepared_fresh stands sizes room places p top (top + 1) before after guarded (omega arith)
      (prepared stands sizes room places p top q page k n before after guarded low stand within fits torn others) fresh,
)
