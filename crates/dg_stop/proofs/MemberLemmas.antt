-- Reads and writes of a standing member of a double rack.
use Rattle.std.proofs.Common.{◌≡◌, ◌≢◌, ◌<◌, ◌+◌, ◌++◌, ℕ, Bool, true, false, List, [], length, take, drop, refl, sym, ◌∙◌, ap, arith, inl, inr, subst}
use Rattle.std.specs.Prelude.{Option, Some, None, IsErr, IsOk, OnErr, OnOk, Result, Ok, Err, slice_get, slice_index_or, slice_set}
use Rattle.std.specs.Global.{Vec}
use Rattle.std.proofs.lemmas.Bool.{false≢true}
use Rattle.std.proofs.lemmas.List.{get_or-set_same, length-set}
use Rattle.std.proofs.lemmas.Option.{slice_get-get_or, slice_get_read}
use Rattle.dg_io.specs.Makes.{Makes}
use Rattle.dg_io.specs.MakesLaws.{makes_made}
use Rattle.dg_io.specs.RackCalls.{RackCall}
use Rattle.dg_io.specs.RackCalls.RackCall.{calls, extends}
use Rattle.dg_io.specs.RackWords.{After, MadeOnly}
use Rattle.dg_io.specs.Told.{IsSame, Patched, Reads, Told, Torn}
use Rattle.dg_io.specs.declared.outside.Rack.{Ghosts}
use Rattle.dg_stop.proofs.BlankLemmas.{beside_then, gone_bare}
use Rattle.dg_stop.proofs.Committing.{same_or_not}
use Rattle.dg_stop.proofs.Keeping.{Narrows}
use Rattle.dg_stop.proofs.PieceLemmas.{told_map}
use Rattle.dg_stop.proofs.StepLemmas.{calls_steps, pages_keep, seen_told, still_keeps, still_steps}
use Rattle.dg_stop.specs.Doubles.{AreHeld, Falls, IsBeside, KeepsStill, Steps, fell_in, known_in, last_in, seen_in, sizes_in, stands_in}
use Rattle.dg_stop.specs.Layouts.{bit_in, table_size}
use Rattle.dg_stop.specs.Pages.{PutsPiece, ReadsPiece, TearsPiece, TornPages}
use Rattle.dg_stop.specs.Pages.TornPages.{untorn}
use Rattle.dg_stop.specs.Phases.{bits_in, bits_of_held, size_in, size_of, view_of}
use Rattle.dg_stop.specs.Serving.{IsOn, Serves}
use Rattle.dg_stop.specs.declared.memories.Memory.{Memory}
use Rattle.dg_stop.specs.declared.places.Places.{Places}

-- ---- what is kept in memory

-- the pages of member q stand in other places, at most
pub record Rewrites (q : ℕ) (m n : Memory) : Type 0 where
  pub beside : IsBeside q m n
  pub stands : n.stands ≡ m.stands
  pub known : n.known ≡ m.known
  pub fell : n.fell ≡ m.fell
  pub size : sizes_in n q ≡ sizes_in m q
  pub bits : length (bits_in n.current.items q) ≡ length (bits_in m.current.items q)
  pub last : n.last ≡ m.last

pub beside_self : (q : ℕ) (m : Memory) → IsBeside q m m
beside_self q m = record {
  stands = λ r far. refl;
  known = λ r far. refl;
  fell = λ r far. refl;
  sizes = λ r far. refl;
  now = λ r far. refl;
  last = λ r far. refl;
  count = refl;
  room = refl;
  commit = refl;
  top = refl;
}

pub rewrites_self : (q : ℕ) (m : Memory) → Rewrites q m m
rewrites_self q m = record { beside = beside_self q m; stands = refl; known = refl; fell = refl; size = refl; bits = refl; last = refl }

pub rewrites_current : (q : ℕ) (m n : Memory) → n.stands ≡ m.stands → n.known ≡ m.known → n.fell ≡ m.fell → n.last ≡ m.last → n.room ≡ m.room → n.commit ≡ m.commit → n.top ≡ m.top
    → ((r : ℕ) → r ≢ q → slice_get n.current.items r ≡ slice_get m.current.items r) → length n.current.items ≡ length m.current.items
    → sizes_in n q ≡ sizes_in m q → length (bits_in n.current.items q) ≡ length (bits_in m.current.items q) → Rewrites q m n
rewrites_current q m n stands known fell last room commit top others count size bits = record {
  beside = record {
    stands = λ r far. ap (λ (l : List Bool). slice_index_or l r false) stands;
    known = λ r far. ap (λ (l : List Bool). slice_index_or l r false) known;
    fell = λ r far. ap (λ (l : List Bool). slice_index_or l r false) fell;
    sizes = λ r far. ap size_of (others r far);
    now = λ r far. ap bits_of_held (others r far);
    last = λ r far. ap (λ (v : Vec Places). bits_in v.items r) last;
    count = count;
    room = room;
    commit = commit;
    top = top;
  };
  stands = stands;
  known = known;
  fell = fell;
  size = size;
  bits = bits;
  last = last;
}

sizes_all : (q : ℕ) (m n : Memory) → Rewrites q m n → (r : ℕ) → sizes_in n r ≡ sizes_in m r
sizes_all q m n is r = elim (same_or_not r q) [
  | inl e ↦ subst (λ (x : ℕ). sizes_in n x ≡ sizes_in m x) (sym e) is.size
  | inr far ↦ is.beside.sizes r far
]

flag_same : (a b : List Bool) (r : ℕ) → a ≡ b → slice_index_or a r false ≡ slice_index_or b r false
flag_same a b r is = ap (λ (l : List Bool). slice_index_or l r false) is

rewrites_less : (q : ℕ) (m n : Memory) → Rewrites q m n → Narrows m n
rewrites_less q m n is = record {
  only = λ r at. sym (flag_same n.stands m.stands r is.stands) ∙ at;
  known = λ r. flag_same n.known m.known r is.known;
  sizes = sizes_all q m n is;
  last = λ r x. ap (λ (v : Vec Places). bit_in (bits_in v.items r) x) is.last;
  room = is.beside.room;
  commit = is.beside.commit;
  top = is.beside.top;
}

falls_stands : (q : ℕ) (m n : Memory) → Falls q m n → (r : ℕ) → stands_in n r ≡ true → stands_in m r ≡ true
falls_stands q m n falls r at = elim (same_or_not r q) [
  | inl e ↦ absurd (false≢true (sym falls.stands ∙ subst (λ (x : ℕ). stands_in n x ≡ true) e at))
  | inr far ↦ sym (falls.beside.stands r far) ∙ at
]

falls_known : (q : ℕ) (m n : Memory) → Falls q m n → (r : ℕ) → known_in n r ≡ known_in m r
falls_known q m n falls r = elim (same_or_not r q) [
  | inl e ↦ subst (λ (x : ℕ). known_in n x ≡ known_in m x) (sym e) falls.known
  | inr far ↦ falls.beside.known r far
]

pub falls_less : (q : ℕ) (m n : Memory) → Falls q m n → Narrows m n
falls_less q m n falls = record {
  only = falls_stands q m n falls;
  known = falls_known q m n falls;
  sizes = λ r. ap (λ (v : Vec Places). size_in v.items r) falls.placed.now;
  last = λ r x. ap (λ (v : Vec Places). bit_in (bits_in v.items r) x) falls.placed.last;
  room = falls.beside.room;
  commit = falls.beside.commit;
  top = falls.beside.top;
}

less_then : (a b c : Memory) → Narrows a b → Narrows b c → Narrows a c
less_then a b c one two = record {
  only = λ r at. one.only r (two.only r at);
  known = λ r. two.known r ∙ one.known r;
  sizes = λ r. two.sizes r ∙ one.sizes r;
  last = λ r x. two.last r x ∙ one.last r x;
  room = two.room ∙ one.room;
  commit = two.commit ∙ one.commit;
  top = two.top ∙ one.top;
}

-- ---- a call that reached nothing behind

module _ {S : Type 0} (rack : Ghosts S) (q : ℕ) (m n : Memory) (a : S) (held : AreHeld rack m a) (falls : Falls q m n) where
  bare : stands_in n q ≡ false → fell_in n q ≡ false → sizes_in n q ≡ 0
  bare out gone = gone_bare q n (omega (arith, held.few, falls.beside.count)) falls.fell gone

  ok_never : {T E : Type 0} (r : Result T E) (P : Type 0) → IsErr r → OnOk r P
  ok_never (Ok x) P is = absurd (false≢true is)
  ok_never (Err x) P is = tt

  pub fall_steps : {T E : Type 0} (call : RackCall) (result : Result T E) → IsErr result → Steps rack call q result m n a a
  fall_steps call result is = still_steps rack call q result m n a held falls.beside falls.placed.now falls.placed.last (falls_stands q m n falls) (ok_never result (stands_in n q ≡ stands_in m q) is) bare
      (ok_never result (known_in n q ≡ known_in m q) is) (λ are at. absurd (false≢true (sym falls.stands ∙ at))) (ok_never result (fell_in n q ≡ fell_in m q) is)

  pub fall_keeps : KeepsStill rack m n a a
  fall_keeps = still_keeps rack m n a (falls_less q m n falls)

-- the bytes of a member that fell
pub fall_seen : (P Q : List ℕ → List ℕ → Type 0) (q : ℕ) (m n : Memory) (x y : Option (List ℕ)) → Falls q m n
    → ((a b : List ℕ) → P a b → Q (view_of m.current.items m.room q a) (view_of m.current.items m.room q b)) → Told P x y → Told Q (seen_in m q x) (seen_in n q y)
fall_seen P Q q m n x y falls f told =
    seen_told P Q m n q x y (λ a b p. subst (λ (l : List ℕ). Q (view_of m.current.items m.room q a) l) (sym (view_placed b)) (f a b p)) told
  where
    view_placed : (b : List ℕ) → view_of n.current.items n.room q b ≡ view_of m.current.items m.room q b
    view_placed b = rw (falls.placed.now, falls.beside.room) refl

pub fall_same : (q : ℕ) (m n : Memory) (x y : Option (List ℕ)) → Falls q m n → Told IsSame x y → Told IsSame (seen_in m q x) (seen_in n q y)
fall_same q m n x y falls same = fall_seen IsSame IsSame q m n x y falls (λ a b e. ap (λ (l : List ℕ). view_of m.current.items m.room q l) e) same

pub told_itself : (x : Option (List ℕ)) → Told IsSame x x
told_itself None = tt
told_itself (Some b) = refl

-- ---- a call that was made behind

module _ {S T E : Type 0} (rack : Ghosts S) (none : (s : S) → rack.made s [] s) (both : (x y z : S) (k l : List RackCall) → rack.made x k y → rack.made y l z → rack.made x (k ++ l) z)
    (after : (x y : S) (k : List RackCall) → rack.made x k y → After rack k x y)
    (q : ℕ) (result : Result T E) (m mid : Memory) (a b : S) (held : AreHeld rack m a) (stand : stands_in m q ≡ true) (made : Makes rack (IsOn q) a b) (serves : Serves rack q result a b)
    (pages : Told (TornPages (table_size (sizes_in m q) m.room) (sizes_in m q) (last_in m q)) (rack.bytes a q) (rack.bytes b q)) (is : Rewrites q m mid) where
  only : MadeOnly rack (IsOn q) a b
  only = makes_made rack (IsOn q) none both a b made

  still : stands_in mid q ≡ true
  still = flag_same mid.stands m.stands q is.stands ∙ stand

  pub done_steps : IsOk result → Steps rack (calls q) q result m mid a b
  done_steps done = calls_steps rack q result m mid a b held stand only after serves pages is.beside is.size is.bits (ap (λ (v : Vec Places). bits_in v.items q) is.last) (ok_of result) (err_of result done) (λ out. absurd (false≢true (sym out ∙ still)))
      (flag_same mid.known m.known q is.known) (stay_of result)
    where
      stay_of : (r : Result T E) → OnOk r (fell_in mid q ≡ fell_in m q)
      stay_of (Ok x) = flag_same mid.fell m.fell q is.fell
      stay_of (Err x) = tt

      ok_of : (r : Result T E) → OnOk r (stands_in mid q ≡ true)
      ok_of (Ok x) = still
      ok_of (Err x) = tt

      err_of : (r : Result T E) → IsOk r → OnErr r (stands_in mid q ≡ false)
      err_of (Ok x) ok = tt
      err_of (Err x) ok = absurd (false≢true ok)

  pub done_keeps : KeepsStill rack m mid a b
  done_keeps = pages_keep rack q m mid a b held stand pages serves.others serves.tells serves.steady_on (rewrites_less q m mid is)

  module _ (n : Memory) (falls : Falls q mid n) where
    there : q < 32
    there = omega (arith, (held.sized q stand).there, held.few)

    pub failed_steps : IsErr result → Steps rack (calls q) q result m n a b
    failed_steps failed = calls_steps rack q result m n a b held stand only after serves pages (beside_then q m mid n is.beside falls.beside)
        (ap (λ (v : Vec Places). size_in v.items q) falls.placed.now ∙ is.size) (ap (λ (v : Vec Places). length (bits_in v.items q)) falls.placed.now ∙ is.bits)
        (ap (λ (v : Vec Places). bits_in v.items q) (falls.placed.last ∙ is.last))
        (ok_of result failed) (err_of result) (λ out. falls.fell there) (falls.known ∙ flag_same mid.known m.known q is.known) (stay_of result failed)
      where
        stay_of : (r : Result T E) → IsErr r → OnOk r (fell_in n q ≡ fell_in m q)
        stay_of (Ok x) err = absurd (false≢true err)
        stay_of (Err x) err = tt

        ok_of : (r : Result T E) → IsErr r → OnOk r (stands_in n q ≡ true)
        ok_of (Ok x) err = absurd (false≢true err)
        ok_of (Err x) err = tt

        err_of : (r : Result T E) → OnErr r (stands_in n q ≡ false)
        err_of (Ok x) = tt
        err_of (Err x) = falls.stands

    pub failed_keeps : KeepsStill rack m n a b
    failed_keeps = pages_keep rack q m n a b held stand pages serves.others serves.tells serves.steady_on (less_then m mid n (rewrites_less q m mid is) (falls_less q mid n falls))

-- ---- bytes

pub same_pages : (t size : ℕ) (last : ℕ → Bool) (x y : Option (List ℕ)) → Told IsSame x y → Told (TornPages t size last) x y
same_pages t size last x y same = told_map IsSame (TornPages t size last) x y (λ a b e. untorn e) same

pub same_seen : (m : Memory) (q : ℕ) (x y : Option (List ℕ)) → Told IsSame x y → Told IsSame (seen_in m q x) (seen_in m q y)
same_seen m q x y same = seen_told IsSame IsSame m m q x y (λ a b e. ap (λ (l : List ℕ). view_of m.current.items m.room q l) e) same

pub reads_seen : (m : Memory) (q size place : ℕ) (bits buf : List ℕ) (x y : Option (List ℕ)) → size ≡ sizes_in m q → bits ≡ bits_in m.current.items q
    → Told (ReadsPiece (table_size size m.room) size (bit_in bits) place buf) x y → Told (Reads place buf) (seen_in m q x) (seen_in m q y)
reads_seen m q size place bits buf x y e f told =
    seen_told (ReadsPiece (table_size (sizes_in m q) m.room) (sizes_in m q) (bit_in (bits_in m.current.items q)) place buf) (Reads place buf) m m q x y
    (λ a b r. record { same = ap (λ (l : List ℕ). view_of m.current.items m.room q l) r.same; there = r.there })
    (subst (λ (l : List ℕ). Told (ReadsPiece (table_size (sizes_in m q) m.room) (sizes_in m q) (bit_in l) place buf) x y) f
    (subst (λ (k : ℕ). Told (ReadsPiece (table_size k m.room) k (bit_in bits) place buf) x y) e told))

pub puts_seen : (m n : Memory) (q place : ℕ) (piece : List ℕ) (x y : Option (List ℕ)) → n.room ≡ m.room → sizes_in n q ≡ sizes_in m q
    → Told (PutsPiece (table_size (sizes_in m q) m.room) (sizes_in m q) (bit_in (bits_in m.current.items q)) (bit_in (bits_in n.current.items q)) place piece) x y
    → Told (Patched place piece) (seen_in m q x) (seen_in n q y)
puts_seen m n q place piece x y room size told =
    seen_told (PutsPiece (table_size (sizes_in m q) m.room) (sizes_in m q) (bit_in (bits_in m.current.items q)) (bit_in (bits_in n.current.items q)) place piece) (Patched place piece) m n q x y
    (λ a b put. rw (size, room) put) told

pub torn_seen : (m mid n : Memory) (q place k : ℕ) (x y : Option (List ℕ)) → Falls q mid n → mid.room ≡ m.room → sizes_in mid q ≡ sizes_in m q
    → Told (TearsPiece (table_size (sizes_in m q) m.room) (sizes_in m q) (bit_in (bits_in m.current.items q)) (bit_in (bits_in mid.current.items q)) place k) x y
    → Told (Torn place k) (seen_in m q x) (seen_in n q y)
torn_seen m mid n q place k x y falls room size told =
    seen_told (TearsPiece (table_size (sizes_in m q) m.room) (sizes_in m q) (bit_in (bits_in m.current.items q)) (bit_in (bits_in mid.current.items q)) place k) (Torn place k) m n q x y
    (λ a b torn. rw (falls.placed.now, falls.beside.room, size, room) torn) told

-- nothing was written
pub torn_none : (m n : Memory) (q place k : ℕ) (x : Option (List ℕ)) → Falls q m n → Told (Torn place k) (seen_in m q x) (seen_in n q x)
torn_none m n q place k x falls = fall_seen IsSame (Torn place k) q m n x x falls
    (λ a b e. record {
      size = ap (λ (l : List ℕ). length (view_of m.current.items m.room q l)) e;
      front = ap (λ (l : List ℕ). take place (view_of m.current.items m.room q l)) e;
      back = ap (λ (l : List ℕ). drop (place + k) (view_of m.current.items m.room q l)) e;
    }) (told_itself x)

-- ---- a member that is read from memory, or not called at all

module _ {S T E : Type 0} (rack : Ghosts S) (call : RackCall) (q : ℕ) (result : Result T E) (m : Memory) (a : S) (held : AreHeld rack m a) where
  same_ok : (r : Result T E) (b : Bool) → OnOk r (b ≡ b)
  same_ok (Ok x) b = refl
  same_ok (Err x) b = tt

  pub idle_steps : Steps rack call q result m m a a
  idle_steps = still_steps rack call q result m m a held (beside_self q m) refl refl (λ r at. at) (same_ok result (stands_in m q)) (held.bare q) (same_ok result (known_in m q)) (λ are. are q) (same_ok result (fell_in m q))

pub idle_keeps : {S : Type 0} (rack : Ghosts S) (m : Memory) (a : S) → KeepsStill rack m m a a
idle_keeps rack m a = still_keeps rack m m a (rewrites_less 0 m m (rewrites_self 0 m))

-- an extend
module _ {S T E : Type 0} (rack : Ghosts S) (q : ℕ) (m : Memory) (a : S) (held : AreHeld rack m a) where
  pub extend_steps : (n : Memory) (r : Result T E) → OnOk r (n ≡ m) → OnErr r (Falls q m n) → Steps rack (extends q) q r m n a a
  extend_steps n (Ok x) same falls = subst (λ (k : Memory). Steps {T = T} {E = E} rack (extends q) q (Ok x) m k a a) (sym same) (idle_steps rack (extends q) q (Ok x) m a held)
  extend_steps n (Err x) same falls = fall_steps rack q m n a held falls (extends q) (Err x) refl

  pub extend_keeps : (n : Memory) (r : Result T E) → OnOk r (n ≡ m) → OnErr r (Falls q m n) → KeepsStill rack m n a a
  extend_keeps n (Ok x) same falls = subst (λ (k : Memory). KeepsStill rack m k a a) (sym same) (idle_keeps rack m a)
  extend_keeps n (Err x) same falls = fall_keeps rack q m n a held falls

-- ---- an element of a list that is lent

pub lent : (all : List Places) (q : ℕ) (x : Places) → q < length all → x ≡ slice_index_or all q x → slice_get all q ≡ Some x
lent all q x low is = slice_get_read all (length all) q x refl low is

pub lent_back : (all : List Places) (q : ℕ) (x : Places) → q < length all → slice_get (slice_set all q x) q ≡ Some x
lent_back all q x low = slice_get-get_or (slice_set all q x) q x (omega (arith, low, length-set all q x)) ∙ ap (λ (y : Places). Some y) (get_or-set_same all q x x low)
