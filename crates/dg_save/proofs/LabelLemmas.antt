-- Where the numbers of a label stand in its bytes, so that two labels with the same bytes are equal.
use Rattle.std.proofs.Common.{◌≡◌, ◌+◌, ◌-◌, ◌<◌, ◌≤◌, ◌==◌, ◌++◌, ◌⊎◌, ◌^◌, ℕ, Bool, true, false, List, [], ◌∷◌, length, take, drop, refl, sym, ◌∙◌, ap, arith, inl, inr, subst}
use Rattle.std.proofs.lemmas.Bool.{false≢true}
use Rattle.std.specs.Prelude.{IfSome, IsSome, IsTrue, Option, Some, None, codes, replicate, slice_index}
use Rattle.std.proofs.lemmas.List.{append_assoc, length-append, drop-replicate, drop_at, take_at}
use borrow.Rule.Slice.PartMut.{put_mid}
use Rattle.byteorder.specs.Endian.{little_bytes}
use Rattle.byteorder.specs.Numbers.{little_number-reads_back}
use Rattle.ufs_model.specs.Numbers.{number_at}
use Rattle.ufs_model.specs.declared.numbers.Endian.TheVariants.{Little}
use Rattle.dg_model.specs.Blocks.{padded}
use Rattle.dg_model.specs.Saves.{IsLabel, Label, label_bytes, room_of, seal_byte}
use Rattle.dg_model.specs.declared.shapes.Shape.{Shape}
use Rattle.dg_model.specs.Shapes.{IsShape, KeepsLimits}
use Rattle.dg_save.specs.Labels.{format_in}

-- ---- writing

pub put_padded : (done bytes old : List ℕ) (a k : ℕ) → length done ≡ a → k ≡ length bytes → a + k ≤ 512 → old ≡ padded 512 done
    → put_mid a k old bytes ≡ padded 512 (done ++ bytes)
put_padded done bytes old a k at long room is =
    let front : take a old ≡ done = ap (take a) is ∙ take_at done (replicate (512 - length done) 0) a at in
    let back : drop a old ≡ replicate (512 - length done) 0 = ap (drop a) is ∙ drop_at done (replicate (512 - length done) 0) a at in
    let rest : drop k (drop a old) ≡ replicate (512 - length (done ++ bytes)) 0 =
    ap (drop k) back ∙ drop-replicate k (512 - length done) 0
    ∙ ap (λ (n : ℕ). replicate n 0) (omega (arith, length-append done bytes)) in
    ap (λ (xs : List ℕ). xs ++ (bytes ++ drop k (drop a old))) front
    ∙ ap (λ (xs : List ℕ). done ++ (bytes ++ xs)) rest
    ∙ sym (append_assoc done bytes (replicate (512 - length (done ++ bytes)) 0))

-- what stands in a buffer, and where it ends
pub record Stands (buf done : List ℕ) (at : ℕ) : Type 0 where
  pub is : buf ≡ padded 512 done
  pub end : length done ≡ at

pub put_next : (buf new done bytes : List ℕ) (at next : ℕ) → next ≡ at + length bytes
    → ((d : List ℕ) → length d ≡ at → buf ≡ padded 512 d → new ≡ padded 512 (d ++ bytes))
    → Stands buf done at → Stands new (done ++ bytes) next
put_next buf new done bytes at next end puts stands = record { is = puts done stands.end stands.is; end = omega (arith, end, stands.end, length-append done bytes) }

pub parts_are : (label : Label) (seal : ℕ) (sequence l n b k m body : List ℕ) → seal ≡ seal_byte label.sealed → sequence ≡ little_bytes 8 label.sequence
    → l ≡ little_bytes 4 label.shape.l → n ≡ little_bytes 4 label.shape.n → b ≡ little_bytes 4 label.shape.b
    → k ≡ little_bytes 4 label.shape.k → m ≡ little_bytes 4 label.shape.m → body ≡ little_bytes 4 label.body
    → padded 512 ((((((((([] ++ codes "DGRAID-") ++ (48 + label.format) ∷ []) ++ sequence) ++ seal ∷ label.boundary ∷ label.side ∷ 0 ∷ []) ++ l) ++ n) ++ b) ++ k) ++ m ++ body)
    ≡ label_bytes label
unfolding label_bytes
parts_are label seal sequence l n b k m body e0 e1 e2 e3 e4 e5 e6 e7 = rw (e0, e1, e2, e3, e4, e5, e6, e7) refl

-- ---- reading

-- the numbers at the places of a label are those of this one
pub record HasNumbers (buf : List ℕ) (label : Label) : Type 0 where
  pub digit : slice_index buf 7 ≡ 48 + label.format
  pub sequence : number_at Little 8 buf 8 ≡ label.sequence
  pub seal : slice_index buf 16 ≡ seal_byte label.sealed
  pub boundary : slice_index buf 17 ≡ label.boundary
  pub side : slice_index buf 18 ≡ label.side
  pub l : number_at Little 4 buf 20 ≡ label.shape.l
  pub n : number_at Little 4 buf 24 ≡ label.shape.n
  pub b : number_at Little 4 buf 28 ≡ label.shape.b
  pub k : number_at Little 4 buf 32 ≡ label.shape.k
  pub m : number_at Little 4 buf 36 ≡ label.shape.m
  pub body : number_at Little 4 buf 40 ≡ label.body

own_numbers : (label : Label) → label.sequence < 2 ^ 64 → label.shape.l < 2 ^ 32 → label.shape.n < 2 ^ 32 → label.shape.b < 2 ^ 32
    → label.shape.k < 2 ^ 32 → label.shape.m < 2 ^ 32 → label.body < 2 ^ 32 → HasNumbers (label_bytes label) label
unfolding label_bytes number_at
own_numbers label s l n b k m body = record {
  digit = refl;
  sequence = little_number-reads_back 8 label.sequence (drop 16 (label_bytes label)) s;
  seal = refl;
  boundary = refl;
  side = refl;
  l = little_number-reads_back 4 label.shape.l (drop 24 (label_bytes label)) l;
  n = little_number-reads_back 4 label.shape.n (drop 28 (label_bytes label)) n;
  b = little_number-reads_back 4 label.shape.b (drop 32 (label_bytes label)) b;
  k = little_number-reads_back 4 label.shape.k (drop 36 (label_bytes label)) k;
  m = little_number-reads_back 4 label.shape.m (drop 40 (label_bytes label)) m;
  body = little_number-reads_back 4 label.body (drop 44 (label_bytes label)) body;
}

small_room : (format : ℕ) (shape : Shape) → IsShape shape → (format ≡ 1) ⊎ (format ≡ 2) → room_of format shape < 2 ^ 32
small_room format shape is which = elim which [
  | inl one ↦ rw one (omega (arith, is.most_blocks, is.most_boundaries, is.sites))
  | inr two ↦ rw two (omega (arith, is.most_blocks, is.most_boundaries, is.sites))
]

pub numbers_of_label : (label : Label) (buf : List ℕ) → IsLabel label → buf ≡ label_bytes label → HasNumbers buf label
numbers_of_label label buf is e =
    let small = small_room label.format label.shape is.shape is.formats in
    let blocks : label.shape.l < 2 ^ 32 = elim is.shape.block [
      | inl x ↦ omega (arith, x)
      | inr y ↦ elim y [ inl x ↦ omega (arith, x) | inr z ↦ elim z [ inl x ↦ omega (arith, x) | inr x ↦ omega (arith, x) ] ]
    ] in
    rw e (own_numbers label (omega (arith, is.last)) blocks (omega (arith, is.shape.most_blocks)) (omega (arith, is.shape.most_boundaries))
    (omega (arith, is.shape.most_slots)) (omega (arith, is.shape.most_boundaries, is.shape.most_places)) (omega (arith, is.body, small)))

sealed_from : (sealed : Bool) (byte : ℕ) → byte ≡ seal_byte sealed → (byte == 0x53) ≡ sealed
sealed_from true byte e = rw e refl
sealed_from false byte e = rw e refl

pub format_from : (format digit : ℕ) → (format ≡ 1) ⊎ (format ≡ 2) → digit ≡ 48 + format → format_in digit ≡ Some format
format_from format digit which e = elim which [
  | inl one ↦ rw (e, one) refl
  | inr two ↦ rw (e, two) refl
]

-- the numbers that were read make this label
pub same_label : (buf : List ℕ) (label : Label) (format sequence body : ℕ) (shape : Shape) → HasNumbers buf label → format ≡ label.format
    → sequence ≡ number_at Little 8 buf 8 → shape ≡ label.shape → body ≡ number_at Little 4 buf 40
    → record {
      format = format;
      sequence = sequence;
      sealed = slice_index buf 16 == 0x53;
      boundary = slice_index buf 17;
      side = slice_index buf 18;
      shape = shape;
      body = body;
    } ≡ label
same_label buf label format sequence body shape has f s e b =
    let sealed = sealed_from label.sealed (slice_index buf 16) has.seal in
    rw (f, s ∙ has.sequence, sealed, has.boundary, has.side, e, b ∙ has.body) refl

pub shape_from : (label : Label) (buf : List ℕ) (l n b k m : ℕ) → HasNumbers buf label → IsShape label.shape → l ≡ number_at Little 4 buf 20
    → n ≡ number_at Little 4 buf 24 → b ≡ number_at Little 4 buf 28 → k ≡ number_at Little 4 buf 32 → m ≡ number_at Little 4 buf 36
    → (found : Option Shape) → (KeepsLimits l n b k m → IsSome found) → IfSome found (λ s. s ≡ record { l = l; n = n; b = b; k = k; m = m })
    → found ≡ Some label.shape
shape_from label buf l n b k m has is el en eb ek em None some numbers =
    absurd (false≢true (some (rw (el ∙ has.l, en ∙ has.n, eb ∙ has.b, ek ∙ has.k, em ∙ has.m) is)))
shape_from label buf l n b k m has is el en eb ek em (Some s) some numbers =
    ap Some (rw (numbers, el ∙ has.l, en ∙ has.n, eb ∙ has.b, ek ∙ has.k, em ∙ has.m) refl)

same_shape : (a b : Shape) → a.l ≡ b.l → a.n ≡ b.n → a.b ≡ b.b → a.k ≡ b.k → a.m ≡ b.m → a ≡ b
same_shape a b l n s k m = rw (← l, ← n, ← s, ← k, ← m) refl

pub labels_once : (a b : Label) → IsLabel a → IsLabel b → label_bytes a ≡ label_bytes b → a ≡ b
labels_once a b one other e =
    let x = numbers_of_label a (label_bytes b) one (sym e) in
    let y = numbers_of_label b (label_bytes b) other refl in
    let format : a.format ≡ b.format = omega (arith, x.digit, y.digit) in
    let shape = same_shape a.shape b.shape (sym x.l ∙ y.l) (sym x.n ∙ y.n) (sym x.b ∙ y.b) (sym x.k ∙ y.k) (sym x.m ∙ y.m) in
    sym (same_label (label_bytes b) a a.format a.sequence a.body a.shape x refl (sym x.sequence) refl (sym x.body))
    ∙ same_label (label_bytes b) b a.format a.sequence a.body a.shape y format (sym x.sequence) shape (sym x.body)

pub no_label : (made label : Label) (test : Bool) → made ≡ label → IsLabel label → (IsLabel made → IsTrue test) → test ≡ false → ⊥
no_label made label test same is passes fails = false≢true (sym fails ∙ passes (subst IsLabel (sym same) is))
