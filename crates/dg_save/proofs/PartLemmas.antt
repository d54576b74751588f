-- The front of some bytes is the bytes of at most one value of a kind, and behind it stand the same bytes.
use Rattle.std.proofs.Common.{◌≡◌, ◌+◌, ◌<◌, ◌++◌, ℕ, zero, suc, Bool, true, false, cond, List, [], ◌∷◌, length, drop, map, refl, sym, ◌∙◌, ap, arith, subst}
use Rattle.std.specs.Prelude.{Err, Ok, Result, flat_map, not}
use Rattle.std.specs.List.{All, zip}
use Rattle.std.proofs.lemmas.List.{append_assoc, flat_map_more, length-append}
use Rattle.std.proofs.lemmas.List.Elements.{All-append}
use Rattle.std.proofs.lemmas.List.Concat.{flat_map-cons}
use Rattle.std.proofs.lemmas.Slice.Zip.{firsts-zip, get_or-zip, length-zip, seconds-zip}
use Rattle.byteorder.specs.Endian.{little_bytes, little_number}
use Rattle.byteorder.specs.Numbers.{little_number-reads_back}
use Rattle.dg_model.specs.Saves.{home_bytes, homes_bytes, phase_byte, site_bytes}
use Rattle.dg_model.specs.declared.homes.Home.{Home}
use Rattle.dg_model.specs.declared.phases.Phase.{Phase}
use Rattle.dg_model.specs.declared.phases.Phase.TheVariants.{Loose, Settled, Worn}
use Rattle.dg_model.specs.declared.sites.Site.{Site}
use Rattle.dg_model.proofs.SiteLists.{apart_test}
use Rattle.dg_save.specs.declared.readers.Unread.{Unread}
use Rattle.dg_save.specs.declared.readers.Unread.TheVariants.{Malformed}
use Rattle.dg_save.specs.Parts.{AreBlocksRead, AreEach, AreRead, FitBlocks, FitHomes, FitNumbers, FitRest, FitSites, FitsByte, FitsHome, FitsNumber, FitsSite, IsAny, IsRead, blocks_bytes, bytes_of_block, flag_bytes, good_bytes, numbers_bytes, phase_bytes, rest_bytes}

-- of the values that fit, each with its bytes, no two stand at the front of the same bytes
pub record AreOnce {X : Type 0} (Fits : X → Type 0) (bytes : X → List ℕ) : Type 0 where
  pub once : (x y : X) (r s : List ℕ) → Fits x → Fits y → bytes x ++ r ≡ bytes y ++ s → (x ≡ y) × (r ≡ s)

-- what stands behind the value
pub behind : {X : Type 0} {Fits : X → Type 0} {bytes : X → List ℕ} → AreOnce Fits bytes → (x y : X) (old r s : List ℕ) → Fits x → Fits y
    → old ≡ bytes x ++ r → old ≡ bytes y ++ s → r ≡ s
behind are x y old r s fx fy ex ey = (are.once x y r s fx fy (sym ex ∙ ey)).1

-- ---- single values

pub bytes_once : AreOnce FitsByte (λ x. x ∷ [])
bytes_once = record { once = λ x y r s fx fy e. (cc e, cc e) }

pub numbers_once : AreOnce FitsNumber (little_bytes 4)
numbers_once = record {
  once = λ x y r s fx fy e. (
    sym (little_number-reads_back 4 x r fx) ∙ ap (λ (l : List ℕ). little_number 4 l) e ∙ little_number-reads_back 4 y s fy,
    ap (λ (l : List ℕ). drop 4 l) e,
  );
}

flag_once : (x y : Bool) (r s : List ℕ) → flag_bytes x ++ r ≡ flag_bytes y ++ s → (x ≡ y) × (r ≡ s)
flag_once true true r s e = (refl, cc e)
flag_once true false r s e = cc e
flag_once false true r s e = cc e
flag_once false false r s e = (refl, cc e)

pub flags_once : AreOnce IsAny flag_bytes
flags_once = record { once = λ x y r s fx fy e. flag_once x y r s e }

mark_once : (x y : Bool) (r s : List ℕ) → good_bytes x ++ r ≡ good_bytes y ++ s → (x ≡ y) × (r ≡ s)
mark_once true true r s e = (refl, cc e)
mark_once true false r s e = cc e
mark_once false true r s e = cc e
mark_once false false r s e = (refl, cc e)

pub marks_once : AreOnce IsAny good_bytes
marks_once = record { once = λ x y r s fx fy e. mark_once x y r s e }

phase_once : (x y : Phase) (r s : List ℕ) → phase_bytes x ++ r ≡ phase_bytes y ++ s → (x ≡ y) × (r ≡ s)
phase_once Loose Loose r s e = (refl, cc e)
phase_once Loose Settled r s e = cc e
phase_once Loose Worn r s e = cc e
phase_once Settled Loose r s e = cc e
phase_once Settled Settled r s e = (refl, cc e)
phase_once Settled Worn r s e = cc e
phase_once Worn Loose r s e = cc e
phase_once Worn Settled r s e = cc e
phase_once Worn Worn r s e = (refl, cc e)

pub phases_once : AreOnce IsAny phase_bytes
phases_once = record { once = λ x y r s fx fy e. phase_once x y r s e }

same_site : (x y : Site) → x.boundary ≡ y.boundary → x.slot ≡ y.slot → x ≡ y
same_site x y b s = rw (← b, ← s) refl

same_home : (x y : Home) → x.inode ≡ y.inode → x.boundary ≡ y.boundary → x ≡ y
same_home x y i b = rw (← i, ← b) refl

pub sites_once : AreOnce FitsSite site_bytes
sites_once = record {
  once = λ x y r s fx fy e.
      let head = bytes_once.once x.boundary y.boundary (little_bytes 4 x.slot ++ r) (little_bytes 4 y.slot ++ s) fx.0 fy.0 e in
      let tail = numbers_once.once x.slot y.slot r s fx.1 fy.1 head.1 in
      (same_site x y head.0 tail.0, tail.1);
}

pub homes_once : AreOnce FitsHome home_bytes
homes_once = record {
  once = λ x y r s fx fy e.
      let head = numbers_once.once x.inode y.inode (x.boundary ∷ r) (y.boundary ∷ s) fx.0 fy.0 e in
      let tail = bytes_once.once x.boundary y.boundary r s fx.1 fy.1 head.1 in
      (same_home x y head.0 tail.0, tail.1);
}

-- ---- lists

all_but_first : {X : Type 0} (P : X → Type 0) (x : X) (xs : List X) → All P (x ∷ xs) → All P xs
all_but_first P x xs each k d low = each (suc k) d (omega (arith, low))

many_once : {X : Type 0} {Fits : X → Type 0} {bytes : X → List ℕ} → AreOnce Fits bytes → (xs ys : List X) (r s : List ℕ) → length xs ≡ length ys
    → All Fits xs → All Fits ys → flat_map bytes xs ++ r ≡ flat_map bytes ys ++ s → (xs ≡ ys) × (r ≡ s)
many_once are [] [] r s n ex ey e = (refl, e)
many_once are [] (y ∷ ys) r s n ex ey e = absurd (omega (arith, n))
many_once are (x ∷ xs) [] r s n ex ey e = absurd (omega (arith, n))
many_once {Fits = Fits} {bytes = bytes} are (x ∷ xs) (y ∷ ys) r s n ex ey e =
    let whole : bytes x ++ (flat_map bytes xs ++ r) ≡ bytes y ++ (flat_map bytes ys ++ s) =
    sym (ap (λ (l : List ℕ). l ++ r) (flat_map-cons bytes x xs) ∙ append_assoc (bytes x) (flat_map bytes xs) r) ∙ e
    ∙ ap (λ (l : List ℕ). l ++ s) (flat_map-cons bytes y ys) ∙ append_assoc (bytes y) (flat_map bytes ys) s in
    let head = are.once x y (flat_map bytes xs ++ r) (flat_map bytes ys ++ s) (ex 0 x (omega arith)) (ey 0 y (omega arith)) whole in
    let rest = many_once are xs ys r s (omega (arith, n)) (all_but_first Fits x xs ex) (all_but_first Fits y ys ey) head.1 in
    (ap (λ z. z ∷ xs) head.0 ∙ ap (λ l. y ∷ l) rest.0, rest.1)

pub lists_once : {X : Type 0} {Fits : X → Type 0} {bytes : X → List ℕ} → AreOnce Fits bytes → (count : ℕ) → AreOnce (AreEach Fits count) (flat_map bytes)
lists_once are count = record { once = λ xs ys r s fx fy e. many_once are xs ys r s (fx.many ∙ sym fy.many) fx.each fy.each e }

-- where some values of a longer list stand at the front, the next one stands behind them
pub next_of : {X : Type 0} {Fits : X → Type 0} {bytes : X → List ℕ} → AreOnce Fits bytes → (done all : List X) (now rest : List ℕ) → All Fits done
    → All Fits all → length done < length all → flat_map bytes done ++ now ≡ flat_map bytes all ++ rest
    → (x : X) × (tail : List ℕ) × Fits x × (now ≡ bytes x ++ tail)
next_of are done [] now rest ed ea low e = absurd (omega (arith, low))
next_of {bytes = bytes} are [] (x ∷ xs) now rest ed ea low e = (
  x,
  flat_map bytes xs ++ rest,
  ea 0 x (omega arith),
  e ∙ ap (λ (l : List ℕ). l ++ rest) (flat_map-cons bytes x xs) ∙ append_assoc (bytes x) (flat_map bytes xs) rest,
)
next_of {Fits = Fits} {bytes = bytes} are (d ∷ ds) (x ∷ xs) now rest ed ea low e =
    let whole : bytes d ++ (flat_map bytes ds ++ now) ≡ bytes x ++ (flat_map bytes xs ++ rest) =
    sym (ap (λ (l : List ℕ). l ++ now) (flat_map-cons bytes d ds) ∙ append_assoc (bytes d) (flat_map bytes ds) now) ∙ e
    ∙ ap (λ (l : List ℕ). l ++ rest) (flat_map-cons bytes x xs) ∙ append_assoc (bytes x) (flat_map bytes xs) rest in
    let head = are.once d x (flat_map bytes ds ++ now) (flat_map bytes xs ++ rest) (ed 0 d (omega arith)) (ea 0 x (omega arith)) whole in
    next_of are ds xs now rest (all_but_first Fits d ds ed) (all_but_first Fits x xs ea) (omega (arith, low)) head.1

-- ---- lists behind their lengths

pub home_lists_once : AreOnce FitHomes homes_bytes
home_lists_once = record {
  once = λ x y r s fx fy e.
      let whole : little_bytes 4 (length x) ++ (flat_map home_bytes x ++ r) ≡ little_bytes 4 (length y) ++ (flat_map home_bytes y ++ s) =
      sym (append_assoc (little_bytes 4 (length x)) (flat_map home_bytes x) r) ∙ e ∙ append_assoc (little_bytes 4 (length y)) (flat_map home_bytes y) s in
      let head = numbers_once.once (length x) (length y) (flat_map home_bytes x ++ r) (flat_map home_bytes y ++ s) fx.short fy.short whole in
      many_once homes_once x y r s head.0 fx.each fy.each head.1;
}

pub number_lists_once : AreOnce FitNumbers numbers_bytes
number_lists_once = record {
  once = λ x y r s fx fy e.
      let head = bytes_once.once (length x) (length y) (flat_map (little_bytes 4) x ++ r) (flat_map (little_bytes 4) y ++ s) fx.short fy.short e in
      many_once numbers_once x y r s head.0 fx.each fy.each head.1;
}

pub block_once : AreOnce (λ (b : List Site × Bool). FitSites b.0) bytes_of_block
block_once = record {
  once = λ x y r s fx fy e.
      let count = bytes_once.once (length x.0) (length y.0) (flag_bytes x.1 ++ (flat_map site_bytes x.0 ++ r)) (flag_bytes y.1 ++ (flat_map site_bytes y.0 ++ s)) fx.short fy.short e in
      let mark = flag_once x.1 y.1 (flat_map site_bytes x.0 ++ r) (flat_map site_bytes y.0 ++ s) count.1 in
      let sites = many_once sites_once x.0 y.0 r s count.0 fx.each fy.each mark.1 in
      (ap (λ (l : List Site). (l, x.1)) sites.0 ∙ ap (λ (m : Bool). (y.0, m)) mark.0, sites.1);
}

-- ---- refusals

-- a call failed, and where it was for the bytes, no value stands at the front
pub failed : {R X : Type 0} (value : R → X) (Fits : X → Type 0) (bytes : X → List ℕ) (old new : List ℕ) (r : Result R Unread) (y e : Unread) → r ≡ Err y → y ≡ e
    → (e ≡ Malformed → (x : X) (rest : List ℕ) → Fits x → old ≡ bytes x ++ rest → ⊥) → IsRead value Fits bytes old new r
failed value Fits bytes old new (Ok x) y e is same none = cc is
failed value Fits bytes old new (Err x) y e is same none = record {
  fits = tt;
  read = tt;
  malformed = λ m. none (sym same ∙ cc (is, m));
}

-- none stands behind the values that were read
pub none_behind : {X : Type 0} {Fits : X → Type 0} {bytes : X → List ℕ} → AreOnce Fits bytes → (old mid : List ℕ) (i n : ℕ) (done : List X)
    → AreRead Fits bytes old mid i done → i < n → ((x : X) (rest : List ℕ) → Fits x → mid ≡ bytes x ++ rest → ⊥)
    → (xs : List X) (rest : List ℕ) → AreEach Fits n xs → old ≡ flat_map bytes xs ++ rest → ⊥
none_behind are old mid i n done read low none xs rest fits says =
    let next = next_of are done xs mid rest read.are.each fits.each (omega (arith, read.are.many, fits.many, low)) (sym read.read ∙ says) in
    none next.0 next.1 next.2 next.3

pub flag_of_mark : (x : Bool) → good_bytes x ≡ flag_bytes (not x)
flag_of_mark true = refl
flag_of_mark false = refl

-- a phase and three zero bytes are a number
pub phase_number : (x : Phase) → FitsNumber (phase_byte x) × (phase_bytes x ≡ little_bytes 4 (phase_byte x))
phase_number Loose = (omega arith, refl)
phase_number Settled = (omega arith, refl)
phase_number Worn = (omega arith, refl)

pub rest_refused : (format : ℕ) (copies : List Home) (old mid : List ℕ) → (format ≡ 1 → ⊥) → FitHomes copies → old ≡ homes_bytes copies ++ mid
    → ((xs : List ℕ) (rest : List ℕ) → FitNumbers xs → mid ≡ numbers_bytes xs ++ rest → ⊥)
    → (x : List Home × List ℕ) (rest : List ℕ) → FitRest format x → old ≡ rest_bytes format x ++ rest → ⊥
rest_refused format copies old mid two fits is none x rest fx says =
    let whole : old ≡ homes_bytes x.0 ++ (numbers_bytes x.1 ++ rest) =
    says ∙ ap (λ (b : Bool). cond b [] (homes_bytes x.0 ++ numbers_bytes x.1) ++ rest) (apart_test format 1 two)
    ∙ append_assoc (homes_bytes x.0) (numbers_bytes x.1) rest in
    none x.1 rest fx.recent (behind home_lists_once copies x.0 old mid (numbers_bytes x.1 ++ rest) fits fx.copies is whole)

-- ---- blocks

zip_more : (rows : List (List Site)) (marks : List Bool) (row : List Site) (mark : Bool) → length rows ≡ length marks
    → zip (rows ++ row ∷ []) (marks ++ mark ∷ []) ≡ zip rows marks ++ (row, mark) ∷ []
zip_more [] [] row mark e = refl
zip_more [] (m ∷ ms) row mark e = absurd (omega (arith, e))
zip_more (r ∷ rs) [] row mark e = absurd (omega (arith, e))
zip_more (r ∷ rs) (m ∷ ms) row mark e = ap (λ l. (r, m) ∷ l) (zip_more rs ms row mark (omega (arith, e)))

zip_fits : (rows : List (List Site)) (marks : List Bool) → length rows ≡ length marks → All FitSites rows
    → All (λ (b : List Site × Bool). FitSites b.0) (zip rows marks)
zip_fits rows marks e each k d low =
    let short : k < length rows = omega (arith, low, length-zip rows marks, e) in
    let long : k < length marks = omega (arith, e, short) in
    subst (λ (b : List Site × Bool). FitSites b.0) (sym (get_or-zip rows marks k d short long)) (each k d.0 short)

zip_long : (rows : List (List Site)) (marks : List Bool) (n : ℕ) → length rows ≡ n → length marks ≡ n → length (zip rows marks) ≡ n
zip_long rows marks n er em = omega (arith, length-zip rows marks, er, em)

pub block_lists_once : (count : ℕ) → AreOnce (FitBlocks count) blocks_bytes
block_lists_once count = record {
  once = λ x y r s fx fy e.
      let both = many_once block_once (zip x.0 x.1) (zip y.0 y.1) r s
      (zip_long x.0 x.1 count fx.lists fx.marks ∙ sym (zip_long y.0 y.1 count fy.lists fy.marks))
      (zip_fits x.0 x.1 (fx.lists ∙ sym fx.marks) fx.sites) (zip_fits y.0 y.1 (fy.lists ∙ sym fy.marks) fy.sites) e in
      let rows = sym (firsts-zip x.0 x.1 (fx.marks ∙ sym fx.lists)) ∙ ap (λ l. map (λ (p : List Site × Bool). p.0) l) both.0 ∙ firsts-zip y.0 y.1 (fy.marks ∙ sym fy.lists) in
      let marks = sym (seconds-zip x.0 x.1 (fx.marks ∙ sym fx.lists)) ∙ ap (λ l. map (λ (p : List Site × Bool). p.1) l) both.0 ∙ seconds-zip y.0 y.1 (fy.marks ∙ sym fy.lists) in
      (ap (λ (l : List (List Site)). (l, x.1)) rows ∙ ap (λ (l : List Bool). (y.0, l)) marks, both.1);
}

one_only : (row : List Site) → FitSites row → All FitSites (row ∷ [])
one_only row fits zero d low = fits
one_only row fits (suc k) d low = absurd (omega (arith, low))

pub blocks_more : (old mid new : List ℕ) (i : ℕ) (rows after : List (List Site)) (marks next : List Bool) (row : List Site) (mark : Bool) → AreBlocksRead old mid i rows marks
    → FitSites row → mid ≡ bytes_of_block (row, mark) ++ new → after ≡ rows ++ row ∷ [] → next ≡ marks ++ mark ∷ []
    → AreBlocksRead old new (i + 1) after next
blocks_more old mid new i rows after marks next row mark read fits is ea en = rw (ea, en) (record {
  fit = record {
    lists = omega (arith, length-append rows (row ∷ []), read.fit.lists);
    marks = omega (arith, length-append marks (mark ∷ []), read.fit.marks);
    sites = All-append FitSites rows (row ∷ []) read.fit.sites (one_only row fits);
  };
  read = read.read ∙ ap (λ l. flat_map bytes_of_block (zip rows marks) ++ l) is
      ∙ sym (append_assoc (flat_map bytes_of_block (zip rows marks)) (bytes_of_block (row, mark)) new)
      ∙ ap (λ l. l ++ new) (flat_map_more bytes_of_block [] (zip rows marks) (row, mark)
      ∙ ap (λ l. flat_map bytes_of_block l) (sym (zip_more rows marks row mark (read.fit.lists ∙ sym read.fit.marks))));
})

pub blocks_refused : (old mid : List ℕ) (i n : ℕ) (rows : List (List Site)) (marks : List Bool) → AreBlocksRead old mid i rows marks → i < n
    → ((x : List Site × Bool) (rest : List ℕ) → FitSites x.0 → mid ≡ bytes_of_block x ++ rest → ⊥)
    → (x : List (List Site) × List Bool) (rest : List ℕ) → FitBlocks n x → old ≡ blocks_bytes x ++ rest → ⊥
blocks_refused old mid i n rows marks read low none x rest fx says =
    let next = next_of block_once (zip rows marks) (zip x.0 x.1) mid rest
    (zip_fits rows marks (read.fit.lists ∙ sym read.fit.marks) read.fit.sites) (zip_fits x.0 x.1 (fx.lists ∙ sym fx.marks) fx.sites)
    (omega (arith, zip_long rows marks i read.fit.lists read.fit.marks, zip_long x.0 x.1 n fx.lists fx.marks, low)) (sym read.read ∙ says) in
    none next.0 next.1 next.2 next.3
