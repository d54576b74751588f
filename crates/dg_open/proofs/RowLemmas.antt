-- Bodies, and the boundaries of the opened array.
use Rattle.std.proofs.Common.{◌≡◌, ◌≢◌, ◌⊎◌, inl, inr, ℕ, zero, suc, ◌+◌, ◌*◌, ◌/◌, ◌%◌, ◌≤◌, ◌<◌, Bool, true, false, List, [], ◌∷◌, ◌++◌, length, refl, sym, ◌∙◌, ap, subst, arith}
use Rattle.std.specs.Prelude.{◌↔◌, Option, Some, None, IfSome, IsSome, IsTrue, MatchOption, slice_get, slice_range, if◌then◌else◌}
use Rattle.std.specs.Global.{Vec}
use Rattle.std.proofs.lemmas.Bool.{cases_eq, cases_lt, false≢true}
use Rattle.std.proofs.lemmas.List.{get_or_past}
use Rattle.dg_io.specs.Told.{Reads, Told}
use Rattle.dg_io.specs.declared.outside.Rack.{Ghosts}
use Rattle.dg_map.specs.Restores.{AreSites, table_with}
use Rattle.dg_model.specs.Openings.{HasOwnLabel, Says, body_in}
use Rattle.dg_model.specs.Saves.{IsBody, IsLabel, body_place, member_length, room_of}
use Rattle.dg_model.specs.Tables.{IsTable, Table}
use Rattle.dg_model.specs.declared.members.MemberState.{MemberState}
use Rattle.dg_model.specs.declared.members.MemberState.TheVariants.{Good, Out}
use Rattle.dg_model.specs.declared.shapes.Shape.{Shape}
use Rattle.dg_model.specs.declared.sites.Site.{Site}
use Rattle.dg_open.proofs.ReadLemmas.{if_some, told_by}
use Rattle.dg_open.specs.Seen.{AreCounted, AreLabeled, HasBodyOf, IsCounted, IsLabeledBy, SaysNone, SaysState, StandBut}
use Rattle.dg_pair.specs.Boundaries.{members_of}
use Rattle.dg_pair.specs.Calls.{IsPair}
use Rattle.dg_pair.specs.declared.boundaries.Boundary.{Boundary}
use Rattle.dg_save.specs.Decodes.{IsDecoded}
use Rattle.dg_save.specs.Labels.{label_of}
use Rattle.dg_save.specs.Parts.{rows_in}
use Rattle.dg_save.specs.States.{state_of}
use Rattle.dg_save.specs.declared.labels.Label.{Label}
use Rattle.dg_save.specs.declared.states.SavedState.{SavedState}
use Rattle.dg_store.specs.Rows.{IsRow, RowStands, member_at, members_in}

-- ---- where a body stands

pub long_enough : (format : ℕ) (shape : Shape) (body size : ℕ) → (format ≡ 1) ⊎ (format ≡ 2) → body ≤ room_of format shape
    → (size ≡ member_length format shape) ⊎ ((format ≡ 1) × (size ≡ member_length 2 shape)) → body_place shape + body ≤ size
long_enough format shape body size formats room is = elim is [
  | inl same ↦ omega (arith, same, room)
  | inr other ↦ let small : body ≤ room_of 1 shape = subst (λ (f : ℕ). body ≤ room_of f shape) other.0 room in omega (arith, other.1, small)
]

pub body_range : (label : Label) (q place n : ℕ) (told : Option (List ℕ)) → IsLabel (label_of label) → IfSome told (λ all. HasOwnLabel q all (label_of label))
    → place ≡ body_place label.shape → n ≡ label.body → IfSome told (λ all. place + n ≤ length all)
body_range label q place n told is own at size = if_some (λ all. HasOwnLabel q all (label_of label)) (λ all. place + n ≤ length all) told own
    (λ all h. omega (arith, long_enough label.format label.shape label.body (length all) is.formats is.body h.size, at, size))

body_is : (label : Label) (place : ℕ) (body x y : List ℕ) → place ≡ body_place label.shape → length body ≡ label.body → Reads place body x y → body ≡ body_in (label_of label) y
body_is label place body x y at size reads =
    reads.there ∙ ap (λ (p : ℕ). slice_range x p (p + length body)) at
    ∙ ap (λ (n : ℕ). slice_range x (body_place label.shape) (body_place label.shape + n)) size
    ∙ ap (λ (xs : List ℕ). slice_range xs (body_place label.shape) (body_place label.shape + label.body)) (sym reads.same)

pub has_body : {R : Type 0} (rack : Ghosts R) (old new : R) (member : ℕ) (label : Label) (place : ℕ) (body : List ℕ) → place ≡ body_place label.shape → length body ≡ label.body
    → Told (Reads place body) (rack.bytes old member) (rack.bytes new member) → rack.stands new member ≡ true → HasBodyOf rack new member label body
has_body rack old new member label place body at size reads stands = record {
  stands = stands;
  size = size;
  is = told_by (Reads place body) (λ all. body ≡ body_in (label_of label) all) (rack.bytes old member) (rack.bytes new member) reads (λ x y r. body_is label place body x y at size r);
}

-- ---- what it says

pub says : {R : Type 0} (rack : Ghosts R) (before now : R) (q : ℕ) (label : Label) (body : List ℕ) (found : Option SavedState) → HasBodyOf rack now q label body
    → IsDecoded label.format label.shape body found → MatchOption found (SaysNone rack before now q label) (SaysState rack now q label)
says rack before now q label body None has none = inr (if_some (λ all. body ≡ body_in (label_of label) all) (λ all. Says (label_of label) all None) (rack.bytes now q) has.is
    (λ all e saved h. none saved (subst (λ (b : List ℕ). IsBody label.format label.shape b saved) (sym e) h)))
says rack before now q label body (Some saved) has is = record {
  form = is.form.can;
  numbers = is.numbers;
  size = sym (ap length is.says) ∙ has.size;
  says = if_some (λ all. body ≡ body_in (label_of label) all) (λ all. Says (label_of label) all (Some (state_of saved))) (rack.bytes now q) has.is
      (λ all e. subst (λ (b : List ℕ). IsBody label.format label.shape b (state_of saved)) e is);
}

-- ---- a row of boundaries

get_push_new : {X : Type 0} (xs : List X) (y : X) → slice_get (xs ++ y ∷ []) (length xs) ≡ Some y
get_push_new [] y = refl
get_push_new (z ∷ xs) y = get_push_new xs y

get_push_other : {X : Type 0} (xs : List X) (j : ℕ) (y : X) → j ≢ length xs → slice_get (xs ++ y ∷ []) j ≡ slice_get xs j
get_push_other [] zero y h = absurd (h refl)
get_push_other [] (suc j) y h = refl
get_push_other (z ∷ xs) zero y h = refl
get_push_other (z ∷ xs) (suc j) y h = get_push_other xs j y (λ e. h (ap suc e))

past : {X : Type 0} (xs : List X) (j : ℕ) → length xs ≤ j → slice_get xs j ≡ None
past [] j h = refl
past (x ∷ xs) zero h = absurd (omega arith)
past (x ∷ xs) (suc j) h = past xs j (omega arith)

some_same : {X : Type 0} (a b : X) → Some a ≡ Some b → a ≡ b
some_same a b e = cc

pub push_stands : (l slots s : ℕ) (row : List Boundary) (y : Boundary) → length row ≡ s → RowStands l slots row → IsPair s l slots y → RowStands l slots (row ++ y ∷ [])
push_stands l slots s row y count stands done t z is = elim (cases_eq t s) [
  | inl here ↦
      let same : y ≡ z = some_same y z (sym (ap (λ (j : ℕ). slice_get (row ++ y ∷ []) j) (here ∙ sym count) ∙ get_push_new row y) ∙ is) in
      subst (λ (w : Boundary). IsPair t l slots w) same (subst (λ (j : ℕ). IsPair j l slots y) (sym here) done)
  | inr other ↦ stands t z (sym (get_push_other row t y (λ e. other (e ∙ count))) ∙ is)
]

-- what a member is, which counts or doesn't
abbrev pub Is : Type 0 → MemberState → Type 0
Is P member = ((member ≡ Good) × P) ⊎ ((member ≡ Out) × (P → ⊥))

pub is_by : (P : Type 0) (good : Bool) (member : MemberState) → member ≡ (if good then Good else Out) → IsTrue good ↔ P → Is P member
is_by P true member is iff = inl (is, iff.0 refl)
is_by P false member is iff = inr (is, λ p. false≢true (iff.1 p))

-- the members of the first boundaries are what they count as
abbrev pub CountedBelow : List (Option Label) → List Bool → Label → List Bool → ℕ → (ℕ → MemberState) → Type 0
CountedBelow table failed source marks count members = (q : ℕ) → q / 2 < count → Is (IsCounted table failed source marks q) (members q)

pub push_counted : (table : List (Option Label)) (failed : List Bool) (source : Label) (marks : List Bool) (s : ℕ) (row : List Boundary) (y : Boundary) (first second : Bool)
    → length row ≡ s → CountedBelow table failed source marks s (members_in row)
    → members_of y (2 * s) ≡ (if first then Good else Out) → members_of y (2 * s + 1) ≡ (if second then Good else Out)
    → IsTrue first ↔ IsCounted table failed source marks (2 * s) → IsTrue second ↔ IsCounted table failed source marks (2 * s + 1)
    → CountedBelow table failed source marks (s + 1) (members_in (row ++ y ∷ []))
push_counted table failed source marks s row y first second count old one two one_is two_is q low = elim (cases_eq (q / 2) s) [
  | inl here ↦
      let at : members_in (row ++ y ∷ []) q ≡ members_of y q =
      ap (λ (o : Option Boundary). member_at o q) (ap (λ (j : ℕ). slice_get (row ++ y ∷ []) j) (here ∙ sym count) ∙ get_push_new row y) in
      subst (λ (m : MemberState). Is (IsCounted table failed source marks q) m) (sym at) (elim (cases_eq q (2 * s)) [
        | inl e ↦ subst (λ (p : ℕ). Is (IsCounted table failed source marks p) (members_of y p)) (sym e) (is_by _ first _ one one_is)
        | inr odd ↦
            let e : q ≡ 2 * s + 1 = omega (arith, here) in
            subst (λ (p : ℕ). Is (IsCounted table failed source marks p) (members_of y p)) (sym e) (is_by _ second _ two two_is)
      ])
  | inr other ↦
      let at : members_in (row ++ y ∷ []) q ≡ members_in row q = ap (λ (o : Option Boundary). member_at o q) (get_push_other row (q / 2) y (λ e. other (e ∙ count))) in
      subst (λ (m : MemberState). Is (IsCounted table failed source marks q) m) (sym at) (old q (omega (arith, low)))
]

pub counted_end : (table : List (Option Label)) (failed : List Bool) (source : Label) (marks : List Bool) (b : ℕ) (row : List Boundary)
    → length row ≡ b → length marks ≡ 2 * b → CountedBelow table failed source marks b (members_in row) → AreCounted table failed source marks (members_in row)
counted_end table failed source marks b row count size old q = elim (cases_lt (q / 2) b) [
  | inl low ↦ old q low
  | inr high ↦ inr (
    ap (λ (o : Option Boundary). member_at o q) (past row (q / 2) (omega (arith, count))),
    λ counted. false≢true (sym (get_or_past marks q false (omega (arith, size))) ∙ counted.said),
  )
]

-- ---- the store's parts

pub are_sites : (table : Table) → IsTable table → AreSites table
are_sites table is = record {
  shape = is.shape;
  size = is.size;
  boundaries = is.boundaries;
  slots = is.slots;
  one_block = is.one_block;
  one_site = is.one_site;
}

pub table_is : (saved : SavedState) (shape : Shape) (lists : List (Vec Site)) → saved.shape ≡ shape → rows_in lists ≡ saved.sites → table_with shape lists ≡ (state_of saved).table
table_is saved shape lists same rows =
    ap (λ (s : Shape). table_with s lists) (sym same) ∙ ap (λ (r : List (List Site)). tabled saved.shape r) rows
  where
    tabled : Shape → List (List Site) → Table
    tabled s r = record { shape = s; rows = r }

-- a member that counts is one of the array's
pub counted_low : (table : List (Option Label)) (failed : List Bool) (source : Label) (marks : List Bool) (b q : ℕ) → length marks ≡ 2 * b → b ≤ 16
    → IsCounted table failed source marks q → q < 32
counted_low table failed source marks b q size few counted = elim (cases_lt q (length marks)) [
  | inl low ↦ omega (arith, size)
  | inr high ↦ absurd (false≢true (sym (get_or_past marks q false high) ∙ counted.said))
]

abbrev own_of : Label → ℕ → Label
own_of source q = record source { boundary = q / 2; side = q % 2 }

pub counted_labeled : {R : Type 0} (rack : Ghosts R) (now : R) (table : List (Option Label)) (failed : List Bool) (source : Label) (marks : List Bool) (q : ℕ)
    → AreLabeled rack now table → q < 32 → IsCounted table failed source marks q → IsLabeledBy rack now q (own_of source q)
counted_labeled rack now table failed source marks q labeled low counted = subst (λ (o : Option Label). IfSome o (IsLabeledBy rack now q)) counted.there (labeled q low)

least_length : (format : ℕ) (shape : Shape) (size : ℕ) → (format ≡ 1) ⊎ (format ≡ 2)
    → (size ≡ member_length format shape) ⊎ ((format ≡ 1) × (size ≡ member_length 2 shape)) → member_length 1 shape ≤ size
least_length format shape size formats is = elim is [
  | inl same ↦ elim formats [
    | inl one ↦ let e : size ≡ member_length 1 shape = same ∙ ap (λ (f : ℕ). member_length f shape) one in omega (arith, e)
    | inr two ↦ let e : size ≡ member_length 2 shape = same ∙ ap (λ (f : ℕ). member_length f shape) two in omega (arith, e)
  ]
  | inr other ↦ omega (arith, other.1)
]

not_out : (member : MemberState) → member ≢ Out → member ≡ Out → ⊥
not_out member not is = not is

pub row_is : {R : Type 0} (rack : Ghosts R) (now : R) (table : List (Option Label)) (failed : List Bool) (source : Label) (marks : List Bool) (row : List Boundary)
    → IsLabel (label_of source) → length marks ≡ 2 * source.shape.b → AreLabeled rack now table → StandBut rack now table failed
    → length row ≡ source.shape.b → RowStands source.shape.l (source.shape.k + 1) row → AreCounted table failed source marks (members_in row)
    → IsRow rack source.shape row now
row_is rack now table failed source marks row is size labeled stand count stands counted = record {
  count = count;
  stands = stands;
  long = λ q not. elim (counted q) [
    | inl good ↦
        let own = counted_labeled rack now table failed source marks q labeled (low q good.1) good.1 in
        if_some (λ all. HasOwnLabel q all (label_of (own_of source q))) (λ all. member_length 1 source.shape ≤ length all) (rack.bytes now q) own.own
        (λ all h. least_length source.format source.shape (length all) is.formats h.size)
    | inr out ↦ absurd (not out.0)
  ];
  stand = λ q not. elim (counted q) [
    | inl good ↦ stand q (low q good.1) (subst (λ (o : Option Label). IsSome o) (sym good.1.there) refl) good.1.stood
    | inr out ↦ absurd (not out.0)
  ];
}
  where
    low : (q : ℕ) → IsCounted table failed source marks q → q < 32
    low q here = counted_low table failed source marks source.shape.b q size is.shape.most_boundaries here
