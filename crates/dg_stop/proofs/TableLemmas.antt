-- The tables that an opening reads, member by member.
use Rattle.std.proofs.Common.{◌^◌, ◌≡◌, ◌≤◌, ◌<◌, ◌+◌, ◌⊎◌, ℕ, List, length, set, refl, sym, ◌∙◌, ap, arith, inl, inr, subst, get_or-set_same, get_or-set_other, zero, suc, [], ◌∷◌, ◌++◌}
use Rattle.std.proofs.lemmas.Bool.{false≢true}
use Rattle.std.proofs.lemmas.List.{get_or_past}
use Rattle.std.specs.Prelude.{Option, Some, None, IfSome, IsErr, IsOk, IsSome, Result, is_some, slice_get}
use Rattle.dg_io.specs.Told.{IsSame, Told}
use Rattle.dg_stop.proofs.Committing.{same_or_not}
use Rattle.dg_stop.proofs.FindLemmas.{bears_still, finds_none, finds_on, finds_then, loses_on, none_some, same_at, some_on}
use Rattle.dg_stop.proofs.Avoiding.{bits_fit, tables_end}
use Rattle.dg_stop.proofs.Frames.{some_map}
use Rattle.dg_stop.proofs.LeadLemmas.{some_is}
use Rattle.dg_stop.specs.FoundHeaders.{Bears, LooksAt, found_at}
use Rattle.dg_stop.specs.Commits.{IsPlaced}
use Rattle.dg_stop.specs.Layouts.{bit_in, bits_of, table_place, table_size}
use Rattle.dg_io.specs.declared.outside.Rack.{Ghosts}
use Rattle.dg_stop.specs.Leads.{IsAttachedBy}
use Rattle.dg_stop.specs.Tables.{AreBorne, AreHeads, AreRoomy, AreShort, AreSmall, FindsOn, HasExtra, HasNoHead, HoldsAt, HoldsTable, IsFirstHead, IsPaired, LosesHead, ReadsFirst, head_at}
use Rattle.dg_stop.specs.Values.{header_of}
use Rattle.dg_stop.specs.declared.found_headers.Found.{Found}
use Rattle.dg_stop.specs.declared.headers.Header.{Header}
use Rattle.dg_stop.specs.declared.places.Places.{Places}

below_or : (k n : ℕ) → (k < n) ⊎ (n ≤ k)
below_or k n = grind arith

pub head_low : (heads : List (Option Header)) (q : ℕ) (h : Header) → length heads ≡ 32 → head_at heads q ≡ Some h → q < 32
head_low heads q h size is = elim (below_or q 32) [
  | inl low ↦ low
  | inr high ↦ absurd (none_some h (sym (get_or_past heads q None (omega (arith, size, high))) ∙ is))
]

pub heads_more : (lead : Header) (found : List Found) (n : ℕ) (heads : List (Option Header)) (head : Option Header) → length heads ≡ 32 → n < 32 → AreHeads lead found n heads
    → IsAttachedBy lead (found_at found n) head → AreHeads lead found (n + 1) (set heads n head)
heads_more lead found n heads head size low so is q under = elim (same_or_not q n) [
  | inl e ↦ subst (λ (x : ℕ). IsAttachedBy lead (found_at found x) (head_at (set heads n head) x)) (sym e)
      (subst (IsAttachedBy lead (found_at found n)) (sym (get_or-set_same heads n head None (omega (arith, size, low)))) is)
  | inr other ↦ subst (IsAttachedBy lead (found_at found q)) (sym (get_or-set_other heads n q head None other)) (so q (omega (arith, under, other)))
]

pub longest_all : (heads : List (Option Header)) (most n : ℕ) → length heads ≡ 32 → n ≡ 32 → ((q : ℕ) (h : Header) → q < n → head_at heads q ≡ Some h → h.size ≤ most) → AreShort heads most
longest_all heads most n size end so q h is = so q h (omega (arith, end, head_low heads q h size is)) is

-- a table ends inside its member
pub extra_inside : {S : Type 0} (rack : Ghosts S) (q : ℕ) (now : S) (h : Header) → Bears rack q now h → (n : ℕ) → n ≡ h.extra
    → IfSome (rack.bytes now q) (λ all. table_place (table_size h.size h.room) h.sequence + bits_of h.size + n ≤ length all)
extra_inside rack q now h bears n is = some_map (rack.bytes now q) _ _
    (λ all long. omega (arith, long, is, bears.is.fits, bits_fit h.size h.room, tables_end (table_size h.size h.room) h.sequence)) bears.long

-- ---- one member after the other

places_is : (a b : Places) → ◌≡◌ {A = Option Places} (Some a) (Some b) → a ≡ b
places_is a b e = ap (λ (o : Option Places). elim o [ None ↦ a | Some x ↦ x ]) e

no_places : (a : Places) → ◌≡◌ {A = Option Places} None (Some a) → ⊥
no_places a e = false≢true (ap is_some e)

pub push_get : (all : List Places) (x held : Places) (q : ℕ) → slice_get (all ++ x ∷ []) q ≡ Some held → (slice_get all q ≡ Some held) ⊎ ((q ≡ length all) × (held ≡ x))
push_get [] x held zero e = inr (refl, sym (places_is x held e))
push_get [] x held (suc q) e = absurd (no_places held e)
push_get (y ∷ all) x held zero e = inl e
push_get (y ∷ all) x held (suc q) e = elim (push_get all x held q e) [
  | inl f ↦ inl f
  | inr f ↦ inr (omega (arith, f.0), f.1)
]

module _ {S : Type 0} (rack : Ghosts S) where
  pub holds_on : (mid new : S) (q : ℕ) (held : Places) (head : Option Header) → Told IsSame (rack.bytes mid q) (rack.bytes new q) → HoldsTable rack mid head q held → HoldsTable rack new head q held
  holds_on mid new q held None same is = is
  holds_on mid new q held (Some h) same is = record {
    size = is.size;
    small = is.small;
    bits = is.bits;
    placed = some_on (IsPlaced (header_of h) (bit_in held.bits.items)) (rack.bytes mid q) (rack.bytes new q) is.placed same;
  }

  module _ {T E : Type 0} (heads : List (Option Header)) (n : ℕ) (mid new : S) (r : Result T E) (ok : IsOk r) (low : n < 32) (look : LooksAt rack n r mid new) where
    pub holds_more : (all : List Places) (x : Places) → length all ≡ n → ((q : ℕ) → HoldsAt rack mid heads all q) → HoldsTable rack new (head_at heads n) n x → (q : ℕ) → HoldsAt rack new heads (all ++ x ∷ []) q
    holds_more all x size so own q held got = elim (push_get all x held q got) [
      | inl was ↦ holds_on mid new q held (head_at heads q) (same_at rack n mid new r look q) (so q held was)
      | inr is ↦
          let at : q ≡ n = is.0 ∙ size in
          subst (λ (k : ℕ). HoldsTable rack new (head_at heads k) k held) (sym at) (subst (λ (y : Places). HoldsTable rack new (head_at heads n) n y) (sym is.1) own)
    ]

    pub borne_on : AreBorne rack heads mid → AreBorne rack heads new
    borne_on borne q h is = ((borne q h is).0, bears_still rack n mid new r ok look q h (borne q h is).1)

    -- memory for one more member
    pub roomy_more : (most : ℕ) (all : List Places) (x : Places) → length all ≡ n → AreRoomy heads most all → (IsPaired heads n → x.most ≡ most) → AreRoomy heads most (all ++ x ∷ [])
    roomy_more most all x size so own q held got paired = elim (push_get all x held q got) [
      | inl was ↦ so q held was paired
      | inr is ↦ ap (λ (y : Places). y.most) is.1 ∙ own (subst (IsPaired heads) (is.0 ∙ size) paired)
    ]

    pub finds_more : (old : S) → FindsOn rack old mid → FindsOn rack old new
    finds_more old finds = finds_then rack old mid new finds (finds_on rack n low mid new r ok look)

-- no member had its turn
pub holds_start : {S : Type 0} (rack : Ghosts S) (now : S) (heads : List (Option Header)) (all : List Places) → length all ≡ 0 → (q : ℕ) → HoldsAt rack now heads all q
holds_start rack now heads [] none q held got = absurd (no_places held got)
holds_start rack now heads (x ∷ all) none q held got = absurd (omega (arith, none))

pub roomy_start : (heads : List (Option Header)) (most : ℕ) (all : List Places) → length all ≡ 0 → AreRoomy heads most all
roomy_start heads most [] none q held got = absurd (no_places held got)
roomy_start heads most (x ∷ all) none q held got = absurd (omega (arith, none))

-- ---- the least member that is attached

pub none_all : (heads : List (Option Header)) (n : ℕ) → length heads ≡ 32 → n ≡ 32 → ((q : ℕ) (k : Header) → q < n → head_at heads q ≡ Some k → ⊥) → HasNoHead heads
none_all heads n size end so q h is = so q h (omega (arith, end, head_low heads q h size is)) is

one_first : (heads : List (Option Header)) (h k : Header) → IsFirstHead heads h → IsFirstHead heads k → h ≡ k
one_first heads h k a b =
    let up : a.member ≤ b.member = a.least b.member k b.at in
    let down : b.member ≤ a.member = b.least a.member h a.at in
    let same : a.member ≡ b.member = omega (arith, up, down) in
    some_is h k (sym a.at ∙ ap (λ (x : ℕ). head_at heads x) same ∙ b.at)

module _ {S : Type 0} (rack : Ghosts S) (heads : List (Option Header)) (old : S) (borne : AreBorne rack heads old) where
  pub reads_none : (extra : List ℕ) → HasNoHead heads → ReadsFirst rack heads old old extra
  reads_none extra none = record { finds = finds_none rack old; borne = borne; some = inl none; has = λ h is. absurd (none is.member h is.at) }

  module _ (first : Header) (is : IsFirstHead heads first) where
    own : first.member ≡ is.member
    own = (borne is.member first is.at).1.own

    pub first_low : first.member < 32
    first_low = omega (arith, own, (borne is.member first is.at).0)

    pub first_bears : Bears rack first.member old first
    first_bears = subst (λ (q : ℕ). Bears rack q old first) (sym own) (borne is.member first is.at).1

    pub first_small : AreSmall heads → first.size < 2 ^ 48
    first_small small = small is.member first is.at

    module _ {T E : Type 0} (new : S) (r : Result T E) (look : LooksAt rack first.member r old new) where
      pub reads_first : IsOk r → (extra : List ℕ) → HasExtra rack new first extra → ReadsFirst rack heads old new extra
      reads_first ok extra has = record {
        finds = finds_on rack first.member first_low old new r ok look;
        borne = borne_on rack heads first.member old new r ok first_low look borne;
        some = inr (first, is);
        has = λ h other. subst (λ (x : Header). HasExtra rack new x extra) (one_first heads first h is other) has;
      }

      pub loses_first : IsErr r → LosesHead rack heads old new first.member
      loses_first err = (loses_on rack first.member first_low old new r err look, some_head (head_at heads first.member) (ap (λ (q : ℕ). head_at heads q) own ∙ is.at))
        where
          some_head : (x : Option Header) → x ≡ Some first → IsSome x
          some_head x e = ap is_some e
