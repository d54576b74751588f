-- Groups that stand for the bytes of a member hold what these lay on the disks.
use Rattle.std.proofs.Common.{◌≡◌, ◌≢◌, ℕ, ◌+◌, ◌-◌, ◌*◌, ◌/◌, ◌%◌, ◌<◌, ◌≤◌, ◌⊎◌, inl, inr, Bool, false, List, [], length, take, drop, get_or, sym, ap, subst, ◌∙◌, arith}
use Rattle.std.specs.Prelude.{slice_index}
use Rattle.std.proofs.lemmas.Bool.{cases_eq, cases_lt}
use Rattle.std.proofs.lemmas.List.{ext_get_or, get_or-take, get_or-drop, length-take-le, length-drop}
use Rattle.dg_io.specs.Told.{patch}
use Rattle.dg_io.specs.declared.outside.Rack.{Ghosts}
use Rattle.dg_parity.specs.Exclusive.{with_at}
use Rattle.dg_parity.specs.Stripes.{parity_of, spot_of, stripe_of, member_by, put, InStripes, IsClear, IsEven}
use Rattle.dg_parity.specs.Groups.{is_out, Holds, IsLater, StandsFor}
use Rattle.dg_parity.specs.Runs.{byte_on, chunk_on, data_on, laid, mixed, stripe_at, ArePages, GathersRow, IsPatched, IsSpan, IsWindow}
use Rattle.dg_parity.specs.declared.groups.Group.{Group}
use Rattle.dg_parity.specs.declared.windows.Window.{Window}
use Rattle.dg_parity.proofs.BytesLemmas.{patch-inside, patch-before, patch-behind, patch-length, place_is, Before, Inside, Behind, inside-before, inside-behind}
use Rattle.dg_parity.proofs.ExclusiveLemmas.{xor-same, xor-others, with-same, with-other}
use Rattle.dg_parity.proofs.GroupLemmas.{in-before}
use Rattle.dg_parity.proofs.HoldLemmas.{holds-of, put-inside, put-outside}
use Rattle.dg_parity.proofs.LaidLemmas.{past-end, laid-data, laid-parity, laid-even, stripe-is, byte-is, row-inside, row-outside, mixed-other, mixed-before, mixed-after, mixed-none}
use Rattle.dg_parity.proofs.MemberLemmas.{member-at, member-length}
use Rattle.dg_parity.proofs.RunLemmas.{chunk-of, stands-on}
use Rattle.dg_parity.proofs.StripeLemmas.{spot-apart}

pub patched : (bytes piece : List ℕ) (at : ℕ) → at + length piece ≤ length bytes → IsPatched at piece bytes (patch bytes at piece)
patched bytes piece at fits = record {
  inside = λ b low high. patch-inside bytes piece at b (omega arith) low high;
  before = λ b low. patch-before bytes piece at b (omega arith) low;
  behind = λ b high. patch-behind bytes piece at b (omega arith) high;
}

pub patch-none : (bytes : List ℕ) (place : ℕ) → place ≤ length bytes → patch bytes place [] ≡ bytes
patch-none bytes place le = ext_get_or 0 (patch bytes place []) bytes (patch-length bytes [] place (omega arith)) (λ k lt. elim (cases_lt k place) [
  | inl low ↦ patch-before bytes [] place k le low
  | inr high ↦ patch-behind bytes [] place k le (omega arith)
])

-- ---- from the bytes of a member to what its disks have, and back

data-held : (n size : ℕ) (has : ℕ → ℕ → ℕ) (bytes : List ℕ) (j x : ℕ) → 3 ≤ n → j < n → j ≢ parity_of n (stripe_at x) → InStripes n size x → IsClear n size has → bytes ≡ member_by n size has
    → has j x ≡ data_on n bytes j x
data-held n size has bytes j x least lt ne range clear is =
    let t = stripe_at x in
    let b = byte_on n j x in
    let chunk : b / 512 ≡ chunk_on n t j = omega arith in
    let at = stands-on n b t j least lt ne chunk in
    let place : (spot_of n b).place ≡ x = omega (arith, at.stripe, range.behind) in
    let there : has j x ≡ has (spot_of n b).disk (spot_of n b).place = ap (λ (d : ℕ). has d x) (sym at.disk) ∙ ap (has (spot_of n b).disk) (sym place) in
    there ∙ elim (cases_lt b size) [
      | inl low ↦ sym (member-at n size b has low) ∙ ap (λ (l : List ℕ). slice_index l b) (sym is)
      | inr high ↦
          clear b high (subst (λ (k : ℕ). InStripes n size k) (sym place) range)
          ∙ sym (past-end bytes b (omega (arith, ap length is, member-length n size has, high)))
    ]

laid-held : (n size : ℕ) (has : ℕ → ℕ → ℕ) (bytes : List ℕ) (j x : ℕ) → 3 ≤ n → j < n → InStripes n size x → IsEven n size has → IsClear n size has → bytes ≡ member_by n size has
    → has j x ≡ laid n bytes j x
laid-held n size has bytes j x least lt range even clear is = elim (cases_eq j (parity_of n (stripe_at x))) [
  | inr ne ↦ data-held n size has bytes j x least lt ne range clear is ∙ sym (laid-data n bytes j x ne)
  | inl e ↦
      sym (xor-others (λ i. has i x) j n lt (even x range))
      ∙ xor-same (with_at (λ i. has i x) j 0) (with_at (λ i. data_on n bytes i x) j 0) n (λ i low. one i low e)
      ∙ sym (laid-parity n bytes j x e)
] where
  one : (i : ℕ) → i < n → j ≡ parity_of n (stripe_at x) → with_at (λ i. has i x) j 0 i ≡ with_at (λ i. data_on n bytes i x) j 0 i
  one i low e = elim (cases_eq i j) [
    | inl same ↦
        ap (with_at (λ i. has i x) j 0) same ∙ with-same (λ i. has i x) j 0
        ∙ sym (ap (with_at (λ i. data_on n bytes i x) j 0) same ∙ with-same (λ i. data_on n bytes i x) j 0)
    | inr ne ↦
        with-other (λ i. has i x) j 0 i ne
        ∙ data-held n size has bytes i x least low (λ p. ne (p ∙ sym e)) range clear is
        ∙ sym (with-other (λ i. data_on n bytes i x) j 0 i ne)
  ]

pub stands-laid : {S : Type 0} (rack : Ghosts S) (group : Group) (now : S) (bytes : List ℕ) → StandsFor rack group now bytes → Holds rack group now (laid group.disks bytes)
stands-laid rack group now bytes h =
    holds-of rack group now h.has (laid group.disks bytes) h.holds (λ j x lt in0 range. laid-held group.disks group.length h.has bytes j x group.least lt range h.even h.clear h.is)

spot-laid : (n : ℕ) (bytes : List ℕ) (b : ℕ) → 3 ≤ n → laid n bytes (spot_of n b).disk (spot_of n b).place ≡ slice_index bytes b
spot-laid n bytes b least =
    let t = stripe_of n (b / 512) in
    let small : b % 512 < 512 = omega arith in
    laid-data n bytes (spot_of n b).disk (spot_of n b).place (λ e. spot-apart n b (e ∙ ap (parity_of n) (stripe-is t (b % 512) small)))
    ∙ ap (slice_index bytes) (byte-is n t (spot_of n b).disk (b % 512) small ∙ omega (arith, chunk-of n b))

pub laid-stands : {S : Type 0} (rack : Ghosts S) (group : Group) (now : S) (bytes : List ℕ) → length bytes ≡ group.length → Holds rack group now (laid group.disks bytes) → StandsFor rack group now bytes
laid-stands rack group now bytes size held =
    let n = group.disks in
    record {
      has = laid n bytes;
      holds = held;
      even = λ x range. laid-even n bytes x (omega (arith, group.least));
      clear = λ b behind range. spot-laid n bytes b group.least ∙ past-end bytes b (omega arith);
      is = ext_get_or 0 bytes (member_by n group.length (laid n bytes)) (size ∙ sym (member-length n group.length (laid n bytes))) (λ b lt.
          sym (spot-laid n bytes b group.least) ∙ sym (member-at n group.length b (laid n bytes) (omega arith)));
    }

-- ---- a row of a disk is written

module _ (n j at : ℕ) (window : Window) (low high : ℕ) (piece parities row bytes next : List ℕ) (least : 3 ≤ n) (lt : j < n) (some : 0 < length piece) (w : IsWindow n at (length piece) window)
    (h : IsPatched at piece bytes next) (span : IsSpan n j at (length piece) window low high) (g : GathersRow n j window.first at piece parities row window.count)
    (pages : (q r : ℕ) → q < window.count → r < 512 → j ≡ parity_of n (window.first + q) → slice_index parities (512 * q + r) ≡ laid n next j (512 + 512 * (window.first + q) + r)) where
  pub row-own : (sub : List ℕ) → low ≤ high → sub ≡ take (high - low) (drop low row) → high ≤ length row → (x : ℕ) → 512 ≤ x
      → put (mixed n bytes next j) j (512 + 512 * window.first + low) sub j x ≡ mixed n bytes next (j + 1) j x
  row-own sub order is fits x behind = elim (place_is (512 + 512 * window.first + low) (length sub) x) [
    | Before early ↦
        put-outside (mixed n bytes next j) j (512 + 512 * window.first + low) j x sub (inside-before _ _ x early)
        ∙ mixed-before n bytes next j x ∙ row-outside n j at x window low high piece bytes next least lt some w h span behind (inl early)
        ∙ sym (mixed-after n bytes next (j + 1) j x (omega arith))
    | Behind late ↦
        put-outside (mixed n bytes next j) j (512 + 512 * window.first + low) j x sub (inside-behind _ _ x late)
        ∙ mixed-before n bytes next j x ∙ row-outside n j at x window low high piece bytes next least lt some w h span behind (inr (omega (arith, late, size, order)))
        ∙ sym (mixed-after n bytes next (j + 1) j x (omega arith))
    | Inside from to ↦
        put-inside (mixed n bytes next j) j (512 + 512 * window.first + low) x sub from to
        ∙ ap (λ (l : List ℕ). slice_index l (x - (512 + 512 * window.first + low))) is
        ∙ get_or-take (high - low) (drop low row) (x - (512 + 512 * window.first + low)) 0 (omega (arith, to, size, from))
        ∙ get_or-drop low row (x - (512 + 512 * window.first + low)) 0
        ∙ ap (λ (k : ℕ). get_or row k 0) (omega (arith, from))
        ∙ row-inside n j at x window low high piece parities row bytes next h span g pages from (omega (arith, to, size, order))
        ∙ sym (mixed-after n bytes next (j + 1) j x (omega arith))
  ] where
    size : length sub ≡ high - low
    size = ap length is ∙ length-take-le (high - low) (drop low row) (omega (arith, length-drop low row))

  pub row-none : high ≤ low → (x : ℕ) → 512 ≤ x → mixed n bytes next j j x ≡ mixed n bytes next (j + 1) j x
  row-none order x behind =
      mixed-before n bytes next j x ∙ row-outside n j at x window low high piece bytes next least lt some w h span behind outside
      ∙ sym (mixed-after n bytes next (j + 1) j x (omega arith))
    where
      outside : (x < 512 + 512 * window.first + low) ⊎ (512 + 512 * window.first + high ≤ x)
      outside = elim (cases_lt x (512 + 512 * window.first + low)) [ inl early ↦ inl early | inr late ↦ inr (omega (arith, late, order)) ]

-- disk j has the next bytes as well
pub row-put : {S : Type 0} (rack : Ghosts S) (old new : Group) (now : S) (n j : ℕ) (bytes next : List ℕ) (f : ℕ → ℕ → ℕ) → IsLater old new → Holds rack new now f
    → ((i x : ℕ) → i ≢ j → f i x ≡ mixed n bytes next j i x) → (is_out old j ≡ false → (x : ℕ) → 512 ≤ x → f j x ≡ mixed n bytes next (j + 1) j x)
    → Holds rack new now (mixed n bytes next (j + 1))
row-put rack old new now n j bytes next f later held others own = holds-of rack new now f (mixed n bytes next (j + 1)) held (λ i x lt in0 range. elim (cases_eq i j) [
  | inr ne ↦ others i x ne ∙ mixed-other n bytes next j i x ne
  | inl e ↦ subst (λ (k : ℕ). f k x ≡ mixed n bytes next (j + 1) k x) (sym e) (own (in-before old new j later (subst (λ (k : ℕ). is_out new k ≡ false) e in0)) x range.behind)
])

pub pages-of : (n first count j : ℕ) (out : ℕ → Bool) (next parities : List ℕ) → ArePages n first count out next parities → out j ≡ false
    → (q r : ℕ) → q < count → r < 512 → j ≡ parity_of n (first + q) → slice_index parities (512 * q + r) ≡ laid n next j (512 + 512 * (first + q) + r)
pages-of n first count j out next parities pages in0 q r within small e =
    pages q r within small (subst (λ (k : ℕ). out k ≡ false) e in0) ∙ ap (λ (p : ℕ). laid n next p (512 + 512 * (first + q) + r)) (sym e)

pub laid-mixed : {S : Type 0} (rack : Ghosts S) (group : Group) (now : S) (n : ℕ) (bytes next : List ℕ) → Holds rack group now (laid n bytes) → Holds rack group now (mixed n bytes next 0)
laid-mixed rack group now n bytes next held = holds-of rack group now (laid n bytes) (mixed n bytes next 0) held (λ j x lt in0 range. sym (mixed-none n bytes next j x))

pub mixed-laid : {S : Type 0} (rack : Ghosts S) (group : Group) (now : S) (n : ℕ) (bytes next : List ℕ) → group.disks ≡ n → Holds rack group now (mixed n bytes next n) → Holds rack group now (laid n next)
mixed-laid rack group now n bytes next e held = holds-of rack group now (mixed n bytes next n) (laid n next) held (λ j x lt in0 range. mixed-after n bytes next n j x (omega (arith, lt, e)))
