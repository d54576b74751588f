-- Marks of inodes that own cut blocks, and what they say of a volume.
use Rattle.std.proofs.Common.{◌≡◌, ◌∙◌, ◌+◌, ◌<◌, ◌++◌, ◌↔◌, ℕ, zero, suc, Bool, true, false, List, [], ◌∷◌, inl, inr, refl, sym, ap, subst, arith, length}
use Rattle.std.specs.Prelude.{◌&&◌, slice_set}
use Rattle.std.proofs.lemmas.Bool.{cases_eq, cases_lt, false≢true}
use Rattle.std.proofs.lemmas.List.{get_or-set_other, get_or-set_same, get_or_past}
use Rattle.dg_claims.specs.Kept.{table_of}
use Rattle.dg_claims.specs.Tables.{TableClaims}
use Rattle.dg_infer.specs.Meanings.{KeptInference, StandsFor}
use Rattle.dg_infer.specs.Wants.{IsOfBy}
use Rattle.dg_model.specs.Marks.{is_marked}
use Rattle.dg_model.specs.Paths.{AreLost, AreLostFrom, LostBlock, PathOf, names_to}
use Rattle.dg_volume.specs.LostFiles.{AreLostMarks, GainsMarks, LostBelow}
use Rattle.ufs_model.specs.Blocks.{Volume}
use Rattle.ufs_model.specs.Claims.{VolumeClaims}
use Rattle.ufs_model.specs.Listings.{Listed}
use Rattle.ufs_model.specs.Owners.{IsOnlyClaim, IsOwner}
use Rattle.ufs_model.specs.Owners.IsOwner.{by_own_slot, by_upper}
use Rattle.ufs_model.specs.Paths.{is_regular}
use Rattle.ufs_model.specs.declared.claims.ClaimSource.{ClaimSource}
use Rattle.ufs_model.specs.declared.claims.ClaimSource.TheVariants.{Pointer, Slot}
use Rattle.ufs_model.specs.declared.inodes.Kind.{Kind}
use Rattle.ufs_model.specs.declared.inodes.Kind.TheVariants.{Regular, Directory, Link, Pipe, Character, Block, Socket, Unknown}
use Rattle.ufs_path.specs.PathLists.{is_marked_file, marked_among, marked_from, put_path}

-- ---- marks

-- one that isn't set, behind others
more_marks : (marks : List Bool) (i : ℕ) → is_marked (marks ++ false ∷ []) i ≡ is_marked marks i
more_marks [] zero = refl
more_marks [] (suc i) = refl
more_marks (mark ∷ marks) zero = refl
more_marks (mark ∷ marks) (suc i) = more_marks marks i

pub grown : (start marks new : List Bool) → new ≡ marks ++ false ∷ [] → ((i : ℕ) → is_marked marks i ≡ is_marked start i) → (i : ℕ) → is_marked new i ≡ is_marked start i
grown start marks new is same i = ap (λ (l : List Bool). is_marked l i) is ∙ more_marks marks i ∙ same i

pub marked_one : (old marks new : List Bool) (k : ℕ) → k < length marks → ((i : ℕ) → is_marked marks i ≡ is_marked old i) → new ≡ slice_set marks k true → GainsMarks old new (λ i. i ≡ k)
marked_one old marks new k low same is i = elim (cases_eq i k) [
  | inl here ↦ (
    λ mark. inr here,
    λ either. ap (λ (l : List Bool). is_marked l i) is ∙ ap (is_marked (slice_set marks k true)) here ∙ get_or-set_same marks k true false low,
  )
  | inr apart ↦
      let stays : is_marked new i ≡ is_marked old i = ap (λ (l : List Bool). is_marked l i) is ∙ get_or-set_other marks k i true false apart ∙ same i in (
        λ mark. inl (sym stays ∙ mark),
        λ either. elim either [
          | inl before ↦ stays ∙ before
          | inr here ↦ absurd (apart here)
        ],
      )
]

pub gains_same : (old new : List Bool) (P Q : ℕ → Type 0) → ((i : ℕ) → P i → Q i) → ((i : ℕ) → Q i → P i) → GainsMarks old new P → GainsMarks old new Q
gains_same old new P Q there back gains i = (
  λ mark. elim ((gains i).0 mark) [
    | inl before ↦ inl before
    | inr here ↦ inr (there i here)
  ],
  λ either. (gains i).1 (elim either [
    | inl before ↦ inl before
    | inr here ↦ inr (back i here)
  ]),
)

pub gains_none : (marks : List Bool) (P : ℕ → Type 0) → ((i : ℕ) → P i → ⊥) → GainsMarks marks marks P
gains_none marks P none i = (
  λ mark. inl mark,
  λ either. elim either [
    | inl before ↦ before
    | inr here ↦ absurd (none i here)
  ],
)

-- a marked block is one that has a mark
marked_low : (marks : List Bool) (b : ℕ) → is_marked marks b ≡ true → b < length marks
marked_low marks b mark = elim (cases_lt b (length marks)) [
  | inl low ↦ low
  | inr past ↦ absurd (false≢true (sym (get_or_past marks b false past) ∙ mark))
]

-- ---- the owners of the first blocks that were cut

module _ (kept : KeptInference) (cut : List Bool) where
  pub below_none : (i : ℕ) → (is_marked [] i ≡ true) ↔ LostBelow kept cut 0 i
  below_none i = (
    λ mark. absurd (false≢true mark),
    λ lost. let low = lost.low in let no : ⊥ = omega (arith, low) in absurd no,
  )

  pub below_next : (old new : List Bool) (n : ℕ) → ((i : ℕ) → (is_marked old i ≡ true) ↔ LostBelow kept cut n i)
      → GainsMarks old new (λ i. (is_marked cut n ≡ true) × IsOfBy kept n i) → (i : ℕ) → (is_marked new i ≡ true) ↔ LostBelow kept cut (n + 1) i
  below_next old new n before gains i = (
    λ mark. elim ((gains i).0 mark) [
      | inl was ↦ let lost = (before i).0 was in let low = lost.low in record { block = lost.block; low = omega (arith, low); cut_is = lost.cut_is; owned = lost.owned }
      | inr here ↦ record { block = n; low = omega arith; cut_is = here.0; owned = here.1 }
    ],
    λ lost. (gains i).1 (elim (cases_lt lost.block n) [
      | inl low ↦ inl ((before i).1 (record { block = lost.block; low = low; cut_is = lost.cut_is; owned = lost.owned }))
      | inr past ↦
          let high = lost.low in
          let here : lost.block ≡ n = omega (arith, past, high) in
          inr (ap (is_marked cut) (sym here) ∙ lost.cut_is, subst (λ (b : ℕ). IsOfBy kept b i) here lost.owned)
    ]),
  )

-- ---- of a volume

only_along : (one other : ℕ → ClaimSource → Type 0) → ((f : ℕ) (s : ClaimSource) → one f s ↔ other f s) → (fragment : ℕ) (source : ClaimSource) → IsOnlyClaim one fragment source
    → IsOnlyClaim other fragment source
only_along one other same fragment source only = record {
  claim = (same fragment source).0 only.claim;
  only = λ t h. only.only t ((same fragment t).1 h);
}

-- an owner by claims is one by the same claims
owner_along : (one other : ℕ → ClaimSource → Type 0) → ((f : ℕ) (s : ClaimSource) → one f s ↔ other f s) → {fragment inode level : ℕ} → IsOwner one fragment inode level
    → IsOwner other fragment inode level
owner_along one other same (by_own_slot {fragment = fragment} {inode = inode} {slot = slot} only is) = by_own_slot (only_along one other same fragment (Slot inode slot) only) is
owner_along one other same (by_upper {fragment = fragment} {upper = upper} {at = at} {above = above} only is owner) =
    by_upper (only_along one other same fragment (Pointer upper above at) only) is (owner_along one other same owner)

-- a block that is lost by what is kept is lost on each volume that it stands for
lost_on : (kept : KeptInference) (cut : List Bool) (v : Volume) (i : ℕ) → StandsFor kept v → LostBelow kept cut (length cut) i → LostBlock kept.l kept.n v cut i
lost_on kept cut v i held lost = record {
  block = lost.block;
  cut_is = lost.cut_is;
  claimed = (lost.owned.0, owner_along (TableClaims (table_of kept.claims)) (VolumeClaims kept.l kept.n v) held.claims.claims lost.owned.1);
}

lost_by : (kept : KeptInference) (cut : List Bool) (v : Volume) (i : ℕ) → StandsFor kept v → LostBlock kept.l kept.n v cut i → LostBelow kept cut (length cut) i
lost_by kept cut v i held lost = record {
  block = lost.block;
  low = marked_low cut lost.block lost.cut_is;
  cut_is = lost.cut_is;
  owned = (lost.claimed.0, owner_along (VolumeClaims kept.l kept.n v) (TableClaims (table_of kept.claims)) (λ f s. let both = held.claims.claims f s in (both.1, both.0)) lost.claimed.1);
}

-- ---- the files among entries

regular_is : (kind : Kind) → is_regular kind ≡ true → kind ≡ Regular
regular_is Regular is = refl
regular_is Directory is = absurd (false≢true is)
regular_is Link is = absurd (false≢true is)
regular_is Pipe is = absurd (false≢true is)
regular_is Character is = absurd (false≢true is)
regular_is Block is = absurd (false≢true is)
regular_is Socket is = absurd (false≢true is)
regular_is Unknown is = absurd (false≢true is)

both_true : (a b : Bool) → (a && b) ≡ true → (a ≡ true) × (b ≡ true)
both_true true b is = (refl, is)
both_true false b is = absurd (false≢true is)

one_false : (a b : Bool) → (a && b) ≡ false → a ≡ true → b ≡ true → ⊥
one_false true b is first second = false≢true (sym is ∙ second)
one_false false b is first second = false≢true first

module _ (l n : ℕ) (v : Volume) (cut marks : List Bool) (right : (i : ℕ) → (is_marked marks i ≡ true) ↔ LostBlock l n v cut i) where
  next_lost : (before : List (List ℕ)) (entry : Listed) (entries : List Listed) (rest : List PathOf) (test : Bool) → is_marked_file marks entry.kind entry.inode ≡ test
      → AreLostFrom l n v cut (names_to before entry) entries rest
      → AreLostFrom l n v cut before (entry ∷ entries) (put_path test entry.inode (names_to before entry) rest)
  next_lost before entry entries rest true is others =
      let both = both_true (is_regular entry.kind) (is_marked marks entry.inode) is in
      inl (rest, (regular_is entry.kind both.0, (right entry.inode).0 both.1), refl, others)
  next_lost before entry entries rest false is others =
      inr (λ lost. one_false (is_regular entry.kind) (is_marked marks entry.inode) is (ap is_regular lost.0) ((right entry.inode).1 lost.1), others)

  lost_from : (before : List (List ℕ)) (entries : List Listed) → AreLostFrom l n v cut before entries (marked_from marks before entries)
  lost_from before [] = refl
  lost_from before (entry ∷ entries) =
      next_lost before entry entries (marked_from marks (names_to before entry) entries) (is_marked_file marks entry.kind entry.inode) refl (lost_from (names_to before entry) entries)

  pub lost_among : (entries : List Listed) → AreLost l n v cut entries (marked_among marks entries)
  lost_among entries = lost_from [] entries

-- the paths of the marked files are those of the files that lost blocks
pub lost_files_of : (l n : ℕ) (kept : KeptInference) (v : Volume) (cut marks : List Bool) (entries : List Listed) → kept.l ≡ l → kept.n ≡ n → StandsFor kept v → AreLostMarks kept cut marks
    → AreLost l n v cut entries (marked_among marks entries)
lost_files_of l n kept v cut marks entries bytes number held right =
    let there = lost_among kept.l kept.n v cut marks (λ i. (λ mark. lost_on kept cut v i held ((right i).0 mark), λ lost. (right i).1 (lost_by kept cut v i held lost))) entries in
    subst (λ (k : ℕ). AreLost l k v cut entries (marked_among marks entries)) number (subst (λ (k : ℕ). AreLost k kept.n v cut entries (marked_among marks entries)) bytes there)
