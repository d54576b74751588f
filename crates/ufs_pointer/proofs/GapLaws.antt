-- Gaps that are many file blocks long.
use Rattle.std.proofs.Common.{◌≡◌, ◌∙◌, ℕ, ◌+◌, ◌-◌, ◌*◌, ◌/◌, ◌%◌, ◌^◌, ◌<◌, ◌≤◌, inl, inr, Bool, true, false, [], refl, sym, ap, subst, arith}
use Rattle.std.specs.Prelude.{◌==◌, ◌&&◌, Contains, if◌then◌else◌, nat_lt}
use Rattle.std.proofs.Math.Nat.{add-mul, div-add-mod', mul-le-mul_right, one-mul, zero-mul}
use Rattle.std.proofs.lemmas.Bool.{and_parts}
use Rattle.std.proofs.lemmas.Bool.Decides.{nat_tests}
use Rattle.std.proofs.lemmas.List.Elements.{Contains-append_cases, Contains-append_left}
use Rattle.std.proofs.lemmas.Nat.{div-mul-add}
use Rattle.ufs_model.specs.Blocks.{Reading, Volume, bind, known, ◌>>=◌}
use Rattle.ufs_model.specs.Geometries.{IsGeometry}
use Rattle.ufs_model.specs.Paths.{block_of, bytes_at}
use Rattle.ufs_model.specs.Pointers.{chain_address, file_block_of, indirect_of, locate_of, slot_address, through}
use Rattle.ufs_model.specs.declared.geometries.Geometry.{Geometry}
use Rattle.ufs_model.specs.declared.inodes.Inode.{Inode}
use Rattle.ufs_model.specs.declared.pointers.Address.{Address}
use Rattle.ufs_model.specs.declared.pointers.Address.TheVariants.{Hole, Wild, At}
use Rattle.ufs_model.specs.declared.pointers.Chain.{Chain}
use Rattle.ufs_model.specs.declared.pointers.Chain.TheVariants.{Direct, One, Two, Three}
use Rattle.ufs_pointer.specs.Fetches.{IsNeeded}
use Rattle.ufs_pointer.specs.Gaps.{chain_gap, double_gap, gap_length, gap_through, is_long, is_nowhere}
use Rattle.ufs_pointer.proofs.ChainLaws.{pointers, quotient_below, square, two_powers}

-- ---- the length, by its tests

pub long_gap : (g : Geometry) (inode : Inode) (i j : ℕ) → is_long g inode i j ≡ true → double_gap g inode i j ≡ known (g.nindir ^ 2)
unfolding double_gap
long_gap g inode i j long = rw long refl

pub lone_gap : (g : Geometry) (inode : Inode) (i j : ℕ) → is_long g inode i j ≡ false → (j == 0) ≡ false → double_gap g inode i j ≡ known 1
unfolding double_gap
lone_gap g inode i j short later = rw (short, later) refl

pub short_gap : (g : Geometry) (inode : Inode) (i j : ℕ) → is_long g inode i j ≡ false → (j == 0) ≡ true
    → double_gap g inode i j ≡ (through g i (slot_address g inode 13) >>= λ single. known (gap_through g.nindir single))
unfolding double_gap
short_gap g inode i j short first = rw (short, first) refl

-- what holds of one, and of a reach that a test tells, holds of the length
by_test : (P : ℕ → Type 0) (test : Bool) (reach : ℕ) → P 1 → (test ≡ true → P reach) → P (if test then reach else 1)
by_test P true reach one all = all refl
by_test P false reach one all = one

by_tests : (P : ℕ → Type 0) (v : Volume) (long first : Bool) (reach : ℕ) (reading : Reading ℕ) → P 1 → (long ≡ true → P reach) → (first ≡ true → P ((reading v).value))
    → P (((if long then known reach else if first then reading else known 1) v).value)
by_tests P v true first reach reading one all some = all refl
by_tests P v false true reach reading one all some = some refl
by_tests P v false false reach reading one all some = one

by_double : (P : ℕ → Type 0) (g : Geometry) (inode : Inode) (v : Volume) (i j : ℕ) → P 1 → (is_long g inode i j ≡ true → P (g.nindir ^ 2))
    → ((j == 0) ≡ true → is_nowhere ((through g i (slot_address g inode 13) v).value) ≡ true → P g.nindir) → P ((double_gap g inode i j v).value)
unfolding double_gap bind
by_double P g inode v i j one all some =
    by_tests P v (is_long g inode i j) (j == 0) (g.nindir ^ 2) (through g i (slot_address g inode 13) >>= λ single. known (gap_through g.nindir single)) one all
    (λ first. by_test P (is_nowhere ((through g i (slot_address g inode 13) v).value)) g.nindir one (λ is. some first is))

-- ---- what is found through a pointer that leads nowhere

through_nowhere : (g : Geometry) (v : Volume) (i : ℕ) (address : Address) → is_nowhere address ≡ true → (through g i address v).value ≡ address
unfolding through
through_nowhere g v i Hole is = refl
through_nowhere g v i Wild is = refl
through_nowhere g v i (At a k) is = let no : false ≡ true = is in cc

by_chain : (g : Geometry) (inode : Inode) (v : Volume) (n : ℕ) (chain : Chain) (address : Address) → locate_of g n ≡ chain → (chain_address g inode chain v).value ≡ address
    → (file_block_of g inode n v).value ≡ address
unfolding file_block_of
by_chain g inode v n chain address is found = ap (λ chain. (chain_address g inode chain v).value) is ∙ found

two_nowhere : (g : Geometry) (inode : Inode) (v : Volume) (i j : ℕ) (address : Address) → (through g i (slot_address g inode 13) v).value ≡ address → is_nowhere address ≡ true
    → (chain_address g inode (Two i j) v).value ≡ address
unfolding bind
two_nowhere g inode v i j address is nowhere = ap (λ one. (through g j one v).value) is ∙ through_nowhere g v j address nowhere

-- ---- where file blocks are found

behind_direct : (g : Geometry) (n : ℕ) → 12 ≤ n → locate_of g n ≡ indirect_of g.nindir (n - 12)
unfolding locate_of
behind_direct g n far = let past : nat_lt n 12 ≡ false = grind (arith, nat_tests) in rw past refl

by_single : (g : Geometry) (n : ℕ) → 12 ≤ n → n < 12 + g.nindir → locate_of g n ≡ One (n - 12)
by_single g n far near = let here : nat_lt (n - 12) g.nindir ≡ true = grind (arith, nat_tests) in behind_direct g n far ∙ rw here refl

by_double_block : (g : Geometry) (n : ℕ) → 12 + g.nindir ≤ n → n < 12 + g.nindir + g.nindir ^ 2
    → locate_of g n ≡ Two ((n - 12 - g.nindir) / g.nindir) ((n - 12 - g.nindir) % g.nindir)
by_double_block g n far near =
    let past : nat_lt (n - 12) g.nindir ≡ false = grind (arith, nat_tests) in
    let here : nat_lt (n - 12 - g.nindir) (g.nindir ^ 2) ≡ true = grind (arith, nat_tests) in
    behind_direct g n (omega arith) ∙ rw (past, here) refl

by_ways : (P : ℕ → Type 0) (g : Geometry) (inode : Inode) (v : Volume) (direct single double : Bool) (slot i j k l m o : ℕ) → P 1
    → (direct ≡ false → single ≡ true → P ((chain_gap g inode (One i) v).value)) → (direct ≡ false → single ≡ false → double ≡ true → P ((double_gap g inode j k v).value))
    → P ((chain_gap g inode (if direct then Direct slot else if single then One i else if double then Two j k else Three l m o) v).value)
by_ways P g inode v true single double slot i j k l m o one near far = one
by_ways P g inode v false true double slot i j k l m o one near far = near refl refl
by_ways P g inode v false false true slot i j k l m o one near far = far refl refl refl
by_ways P g inode v false false false slot i j k l m o one near far = one

by_length : (P : ℕ → Type 0) (g : Geometry) (inode : Inode) (v : Volume) (n : ℕ) → P 1
    → (12 ≤ n → n < 12 + g.nindir → P ((chain_gap g inode (One (n - 12)) v).value))
    → (12 + g.nindir ≤ n → n < 12 + g.nindir + g.nindir ^ 2 → P ((double_gap g inode ((n - 12 - g.nindir) / g.nindir) ((n - 12 - g.nindir) % g.nindir) v).value))
    → P ((gap_length g inode n v).value)
unfolding gap_length locate_of
by_length P g inode v n one near far =
    by_ways P g inode v (nat_lt n 12) (nat_lt (n - 12) g.nindir) (nat_lt (n - 12 - g.nindir) (g.nindir ^ 2)) n (n - 12) _ _ _ _ _ one
    (λ past here. near (grind (arith, nat_tests)) (grind (arith, nat_tests)))
    (λ past behind here. far (grind (arith, nat_tests)) (grind (arith, nat_tests)))

-- ---- all file blocks of a gap

-- the file blocks from n on, so many of them, have one address
abbrev Passes : Geometry → Inode → Volume → ℕ → ℕ → Type 0
Passes g inode v n length = (m : ℕ) → n ≤ m → m < n + length → (file_block_of g inode m v).value ≡ (file_block_of g inode n v).value

-- this one, where each of them, n too, has it
passes_all : (g : Geometry) (inode : Inode) (v : Volume) (n length : ℕ) (address : Address) → 1 ≤ length
    → ((m : ℕ) → n ≤ m → m < n + length → (file_block_of g inode m v).value ≡ address) → Passes g inode v n length
passes_all g inode v n length address some each m low high = each m low high ∙ sym (each n (omega arith) (omega arith))

passes_one : (g : Geometry) (inode : Inode) (v : Volume) (n : ℕ) → Passes g inode v n 1
passes_one g inode v n m low high = let same : m ≡ n = omega arith in ap (λ k. (file_block_of g inode k v).value) same

passes_single : (g : Geometry) (inode : Inode) (v : Volume) (n : ℕ) → 1024 ≤ g.nindir → 12 ≤ n → (n - 12 == 0) ≡ true → is_nowhere (slot_address g inode 12) ≡ true → Passes g inode v n g.nindir
passes_single g inode v n some far first nowhere =
    let start : n ≡ 12 = grind (arith, nat_tests) in
    passes_all g inode v n g.nindir (slot_address g inode 12) (omega arith)
    (λ m low high. by_chain g inode v m (One (m - 12)) (slot_address g inode 12) (by_single g m (omega arith) (omega arith)) (through_nowhere g v (m - 12) (slot_address g inode 12) nowhere))

no_rest : (r p : ℕ) → (r % p == 0) ≡ true → r / p * p ≡ r
no_rest r p first = let none : r % p ≡ 0 = grind (arith, nat_tests) in let sum = div-add-mod' r p in omega arith

passes_long : (g : Geometry) (inode : Inode) (v : Volume) (n : ℕ) → 1 ≤ g.nindir ^ 2 → 12 + g.nindir ≤ n
    → is_long g inode ((n - 12 - g.nindir) / g.nindir) ((n - 12 - g.nindir) % g.nindir) ≡ true → Passes g inode v n (g.nindir ^ 2)
passes_long g inode v n some far long =
    let r = n - 12 - g.nindir in
    let slot = slot_address g inode 13 in
    let parts = and_parts (r / g.nindir == 0) ((r % g.nindir == 0) && is_nowhere slot) long in
    let rest = and_parts (r % g.nindir == 0) (is_nowhere slot) parts.1 in
    let whole = no_rest r g.nindir rest.0 in
    let none : r / g.nindir ≡ 0 = grind (arith, nat_tests) in
    let start : r ≡ 0 = sym whole ∙ ap (λ k. k * g.nindir) none ∙ zero-mul g.nindir in
    passes_all g inode v n (g.nindir ^ 2) slot some
    (λ m low high. by_chain g inode v m (Two ((m - 12 - g.nindir) / g.nindir) ((m - 12 - g.nindir) % g.nindir)) slot (by_double_block g m (omega arith) (omega arith))
    (two_nowhere g inode v ((m - 12 - g.nindir) / g.nindir) ((m - 12 - g.nindir) % g.nindir) slot (through_nowhere g v ((m - 12 - g.nindir) / g.nindir) slot rest.1) rest.1))

same_quotient : (p r x : ℕ) → r / p * p ≡ r → r ≤ x → x < r + p → x / p ≡ r / p
same_quotient p r x whole low high =
    let sum : r / p * p + (x - r) ≡ x = omega arith in
    subst (λ y. y / p ≡ r / p) sum (div-mul-add (r / p) p (x - r) (omega arith))

block_fits : (p r : ℕ) → r / p * p ≡ r → r / p < p → r + p ≤ p ^ 2
block_fits p r whole low =
    let more : (r / p + 1) * p ≤ p * p = mul-le-mul_right p (omega arith) in
    let apart : (r / p + 1) * p ≡ r / p * p + 1 * p = add-mul (r / p) 1 p in
    let one : 1 * p ≡ p = one-mul p in
    rw (two_powers p) (omega arith)

passes_short : (g : Geometry) (inode : Inode) (v : Volume) (n : ℕ) → 1024 ≤ g.nindir → 12 + g.nindir ≤ n → n < 12 + g.nindir + g.nindir ^ 2
    → ((n - 12 - g.nindir) % g.nindir == 0) ≡ true → is_nowhere ((through g ((n - 12 - g.nindir) / g.nindir) (slot_address g inode 13) v).value) ≡ true → Passes g inode v n g.nindir
passes_short g inode v n some far near first nowhere =
    let r = n - 12 - g.nindir in
    let single = (through g (r / g.nindir) (slot_address g inode 13) v).value in
    let whole = no_rest r g.nindir first in
    let fits = block_fits g.nindir r whole (quotient_below g.nindir r some (omega arith)) in
    passes_all g inode v n g.nindir single (omega arith)
    (λ m low high.
    let same = same_quotient g.nindir r (m - 12 - g.nindir) whole (omega arith) (omega arith) in
    by_chain g inode v m (Two ((m - 12 - g.nindir) / g.nindir) ((m - 12 - g.nindir) % g.nindir)) single (by_double_block g m (omega arith) (omega arith))
    (two_nowhere g inode v ((m - 12 - g.nindir) / g.nindir) ((m - 12 - g.nindir) % g.nindir) single (ap (λ i. (through g i (slot_address g inode 13) v).value) same) nowhere))

address_same : (g : Geometry) (inode : Inode) (v : Volume) (n m : ℕ) → IsGeometry g → n ≤ m → m < n + (gap_length g inode n v).value
    → (file_block_of g inode m v).value ≡ (file_block_of g inode n v).value
address_same g inode v n m is =
    let some = (pointers g is).0 in
    let many : 1 ≤ g.nindir ^ 2 = let h = square g is in let low = h.1 in rw (h.0) (omega arith) in
    let one = passes_one g inode v n in
    by_length (Passes g inode v n) g inode v n one
    (λ low high. by_test (Passes g inode v n) (n - 12 == 0) (gap_through g.nindir (slot_address g inode 12)) one
    (λ first. by_test (Passes g inode v n) (is_nowhere (slot_address g inode 12)) g.nindir one
    (λ nowhere. passes_single g inode v n some low first nowhere)))
    (λ low high. by_double (Passes g inode v n) g inode v ((n - 12 - g.nindir) / g.nindir) ((n - 12 - g.nindir) % g.nindir) one
    (λ long. passes_long g inode v n many low long) (λ first nowhere. passes_short g inode v n some low high first nowhere)) m

pub gap_same : (g : Geometry) (inode : Inode) (v : Volume) (n m : ℕ) → IsGeometry g → n ≤ m → m < n + (gap_length g inode n v).value
    → (block_of g inode m v).value ≡ (block_of g inode n v).value
unfolding block_of bind
gap_same g inode v n m is low high = ap (λ address. (bytes_at g address v).value) (address_same g inode v n m is low high)

-- ---- what is consulted

needed_none : (block : ℕ) → Contains [] block → ⊥
needed_none block (k, low, here) = omega arith

needed_front : {A B : Type 0} (d : Reading A) (f : A → Reading B) (v : Volume) (block : ℕ) → IsNeeded d v block → IsNeeded (bind d f) v block
unfolding bind
needed_front d f v block h = Contains-append_left ((d v).needs) ((f ((d v).value) v).needs) block h

needed_first : (d : Reading Address) (f : Address → ℕ) (v : Volume) (block : ℕ) → IsNeeded (bind d (λ address. known (f address))) v block → IsNeeded d v block
unfolding bind
needed_first d f v block h = elim (Contains-append_cases ((d v).needs) [] block h) [
  | inl front ↦ front
  | inr none ↦ absurd (needed_none block none)
]

needs_by : (g : Geometry) (base : Reading Address) (reading : Reading ℕ) (v : Volume) (block : ℕ) (long first : Bool) (reach : ℕ) → (IsNeeded reading v block → IsNeeded base v block)
    → IsNeeded (if long then known reach else if first then reading else known 1) v block → IsNeeded base v block
needs_by g base reading v block true first reach some h = absurd (needed_none block h)
needs_by g base reading v block false true reach some h = some h
needs_by g base reading v block false false reach some h = absurd (needed_none block h)

double_needs : (g : Geometry) (inode : Inode) (v : Volume) (i j block : ℕ) → IsNeeded (double_gap g inode i j) v block → IsNeeded (through g i (slot_address g inode 13)) v block
unfolding double_gap
double_needs g inode v i j block h =
    let upper = through g i (slot_address g inode 13) in
    needs_by g upper (upper >>= λ single. known (gap_through g.nindir single)) v block (is_long g inode i j) (j == 0) (g.nindir ^ 2)
    (needed_first upper (gap_through g.nindir) v block) h

chain_needs : (g : Geometry) (inode : Inode) (v : Volume) (chain : Chain) (block : ℕ) → IsNeeded (chain_gap g inode chain) v block → IsNeeded (chain_address g inode chain) v block
chain_needs g inode v (Direct slot) block h = h
chain_needs g inode v (One i) block h = absurd (needed_none block h)
chain_needs g inode v (Two i j) block h = needed_front (through g i (slot_address g inode 13)) (through g j) v block (double_needs g inode v i j block h)
chain_needs g inode v (Three i j k) block h = absurd (needed_none block h)

pub gap_needs : (g : Geometry) (inode : Inode) (v : Volume) (n block : ℕ) → IsNeeded (gap_length g inode n) v block → IsNeeded (block_of g inode n) v block
unfolding gap_length file_block_of block_of
gap_needs g inode v n block h = needed_front (file_block_of g inode n) (bytes_at g) v block (chain_needs g inode v (locate_of g n) block h)
