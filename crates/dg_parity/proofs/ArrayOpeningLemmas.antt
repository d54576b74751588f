-- What an opening finds on all disks, group by group.
use Rattle.std.proofs.Common.{◌≡◌, ℕ, zero, suc, ◌+◌, ◌<◌, ◌≤◌, inl, inr, List, [], ◌∷◌, ◌++◌, length, sym, ap, subst, ◌∙◌, arith}
use Rattle.std.specs.Prelude.{Option, IfSome, slice_get, slice_set, slice_index_or}
use Rattle.std.proofs.lemmas.Bool.{cases_eq}
use Rattle.std.proofs.lemmas.List.{get_or-set_same, get_or-set_other}
use Rattle.dg_io.specs.declared.outside.Rack.{Ghosts}
use Rattle.dg_parity.specs.Groups.{disk_number}
use Rattle.dg_parity.specs.Headers.{IsCounted}
use Rattle.dg_parity.specs.Stripes.{disk_length}
use Rattle.dg_parity.specs.Openings.{IsFound, IsOpenedOr, IsWidth, AreFound, AreOpened, LeavesRead, fronts_in, fronts_by}
use Rattle.dg_parity.specs.declared.groups.Group.{Group}
use Rattle.dg_parity.specs.declared.headers.Header.{Header}
use Rattle.dg_parity.proofs.OpeningLemmas.{found-later, found-sooner}

-- one group more was looked at
pub rows-more : {S : Type 0} (rack : Ghosts S) (a b c : S) (s : ℕ) (rows : List (List (Option Header))) (row : List (Option Header)) → s < length rows
    → LeavesRead rack (disk_number 0 0) (disk_number s 0) a b → LeavesRead rack (disk_number s 0) (disk_number s 8) b c
    → ((t j : ℕ) → t < s → j < 8 → IsFound rack a b t j (fronts_by rows t j)) → ((j : ℕ) → j < 8 → IsFound rack b c s j (fronts_in row j))
    → (t j : ℕ) → t < s + 1 → j < 8 → IsFound rack a c t j (fronts_by (slice_set rows s row) t j)
rows-more rack a b c s rows row room first second before own t j lt lt8 = elim (cases_eq t s) [
  | inl e ↦
      let at : row ≡ slice_index_or (slice_set rows s row) t [] = sym (ap (λ (k : ℕ). slice_index_or (slice_set rows s row) k []) e ∙ get_or-set_same rows s row [] room) in
      subst (λ (r : List (Option Header)). IsFound rack a c t j (fronts_in r j)) at
      (subst (λ (k : ℕ). IsFound rack a c k j (fronts_in row j)) (sym e) (found-sooner rack a b c s j (disk_number 0 0) (disk_number s 0) (fronts_in row j) first (own j lt8)))
  | inr ne ↦
      let at : slice_index_or rows t [] ≡ slice_index_or (slice_set rows s row) t [] = sym (get_or-set_other rows s t row [] ne) in
      subst (λ (r : List (Option Header)). IsFound rack a c t j (fronts_in r j)) at
      (found-later rack a b c t j (disk_number s 0) (disk_number s 8) (fronts_by rows t j) (inl (omega (arith, lt, ne, lt8))) second (before t j (omega (arith, lt, ne)) lt8))
]

-- ---- one group more is made

pushed : (P : ℕ → Group → Type 0) (groups : List Group) (group : Group) → ((s : ℕ) → IfSome (slice_get groups s) (P s)) → P (length groups) group
    → (s : ℕ) → IfSome (slice_get (groups ++ group ∷ []) s) (P s)
pushed P [] group before own zero = own
pushed P [] group before own (suc s) = tt
pushed P (first ∷ rest) group before own zero = before zero
pushed P (first ∷ rest) group before own (suc s) = pushed (λ k. P (suc k)) rest group (λ k. before (suc k)) own s

pub opened-push : {S : Type 0} (rack : Ghosts S) (now : S) (fronts : ℕ → ℕ → Option Header) (n s : ℕ) (groups : List Group) (group : Group) → length groups ≡ s → AreOpened rack now fronts n groups
    → IsOpenedOr rack now (fronts s) n s group → AreOpened rack now fronts n (groups ++ group ∷ [])
opened-push rack now fronts n s groups group count before own =
    pushed (λ k g. IsOpenedOr rack now (fronts k) n k g) groups group before (subst (λ (k : ℕ). IsOpenedOr rack now (fronts k) n k group) (sym count) own)

-- a width is that of a header that counts
pub width-range : {S : Type 0} (rack : Ghosts S) (before now : S) (fronts : ℕ → ℕ → Option Header) (n : ℕ) → AreFound rack before now fronts → IsWidth fronts n → (3 ≤ n) × (n ≤ 8)
width-range rack before now fronts n found width =
    let at = found width.group width.first.place width.within width.first.within in
    let counts = subst (λ (o : Option Header). IfSome o (λ h. IsCounted width.group width.first.place (disk_length h.disks h.size) h)) width.first.found at.counted in
    (subst (λ (k : ℕ). 3 ≤ k) width.first.width counts.least, subst (λ (k : ℕ). k ≤ 8) width.first.width counts.most)
