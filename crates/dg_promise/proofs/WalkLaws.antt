-- File blocks are found through what they are reached through: the way from the slot of an inode, level by level.
use Rattle.std.proofs.Common.{◌≡◌, ◌∙◌, ℕ, zero, suc, ◌+◌, ◌-◌, ◌*◌, ◌/◌, ◌%◌, ◌^◌, ◌<◌, ◌≤◌, inl, inr, Bool, true, false, refl, sym, ap, subst, arith}
use Rattle.std.specs.Prelude.{◌==◌, Contains, if◌then◌else◌, nat_lt}
use Rattle.std.proofs.Math.Nat.{div-one, mul-le-mul_right, one-le-pow, one-mul, pow-suc, pow-succ'}
use Rattle.std.proofs.Math.Arith.{mod-mul}
use Rattle.std.proofs.lemmas.Bool.{cases_lt}
use Rattle.std.proofs.lemmas.Bool.Decides.{nat_tests}
use Rattle.std.proofs.lemmas.List.{append-nil}
use Rattle.std.proofs.lemmas.List.Elements.{Contains-append_cases, Contains-append_left, Contains-append_right}
use Rattle.std.proofs.lemmas.Nat.{div-mul-add, mod-mul-add, mod_below}
use native.Mathlib.Numerals.{unary_clauses}
use Rattle.ufs_model.specs.Blocks.{Consulted, Reading, Volume, bind, known, ◌>>=◌}
use Rattle.ufs_model.specs.Malformations.{first_block}
use Rattle.ufs_model.specs.Pointers.{chain_address, file_block_of, indirect_of, locate_of, slot_address, through}
use Rattle.ufs_model.specs.declared.geometries.Geometry.{Geometry}
use Rattle.ufs_model.specs.declared.inodes.Inode.{Inode}
use Rattle.ufs_model.specs.declared.pointers.Address.{Address}
use Rattle.ufs_model.specs.declared.pointers.Chain.{Chain}
use Rattle.ufs_model.specs.declared.pointers.Chain.TheVariants.{Direct, One, Two, Three}
use Rattle.ufs_frames.proofs.FragmentLaws.{two_powers}

-- file block m of those that are found through an address, k levels down
pub descend : Geometry → ℕ → ℕ → Address → Reading Address
descend g zero m at = known at
descend g (suc k) m at = through g (m / g.nindir ^ k) at >>= λ next. descend g k (m % g.nindir ^ k) next

-- the file blocks from n on, as many as so many levels lead to, are found through an address
pub record Leads (g : Geometry) (inode : Inode) (v : Volume) (k n : ℕ) (at : Address) : Type 0 where
  pub value : (m : ℕ) → m < g.nindir ^ k → (file_block_of g inode (n + m) v).value ≡ (descend g k m at v).value
  pub needs : (m b : ℕ) → m < g.nindir ^ k → Contains ((descend g k m at v).needs) b → Contains ((file_block_of g inode (n + m) v).needs) b

-- ---- numbers

power_none : (n : ℕ) → n ^ 0 ≡ 1
power_none n = simp unary_clauses

power_one : (n : ℕ) → n ^ 1 ≡ n
power_one n = pow-suc n 0 ∙ ap (λ k. k * n) (power_none n) ∙ one-mul n

power_some : (n k : ℕ) → 0 < n → 0 < n ^ k
power_some n k some = one-le-pow k n some

divided : (n m : ℕ) → m / n ^ 0 ≡ m
divided n m = rw (power_none n) (div-one m)

-- the digits of a number
lower_digit : (n m : ℕ) → 0 < n → m % n ^ 2 % n ≡ m % n
lower_digit n m some = rw (two_powers n, mod-mul m {m = n} {c = n} some some) (mod-mul-add (m / n % n) n (m % n) (mod_below m n some))

upper_digit : (n m : ℕ) → 0 < n → m % n ^ 2 / n ≡ m / n % n
upper_digit n m some = rw (two_powers n, mod-mul m {m = n} {c = n} some some) (div-mul-add (m / n % n) n (m % n) (mod_below m n some))

-- ---- where a file block is found

chain_if : (direct : Bool) (n : ℕ) (far : Chain) → direct ≡ false → (if direct then Direct n else far) ≡ far
chain_if direct n far is = rw is refl

far_chain : (g : Geometry) (m : ℕ) → locate_of g (12 + m) ≡ indirect_of g.nindir m
unfolding locate_of
far_chain g m =
    let past : nat_lt (12 + m) 12 ≡ false = grind (arith, nat_tests) in
    let back : 12 + m - 12 ≡ m = omega arith in
    rw (past, back) refl

one_level : (g : Geometry) (m : ℕ) → m < g.nindir → locate_of g (12 + m) ≡ One m
one_level g m low =
    let near : nat_lt m g.nindir ≡ true = grind (arith, nat_tests) in
    far_chain g m ∙ rw near refl

two_levels : (g : Geometry) (m : ℕ) → m < g.nindir ^ 2 → locate_of g (12 + g.nindir + m) ≡ Two (m / g.nindir) (m % g.nindir)
two_levels g m low =
    let sum : 12 + g.nindir + m ≡ 12 + (g.nindir + m) = omega arith in
    let far : nat_lt (g.nindir + m) g.nindir ≡ false = grind (arith, nat_tests) in
    let back : g.nindir + m - g.nindir ≡ m = omega arith in
    let near : nat_lt m (g.nindir ^ 2) ≡ true = grind (arith, nat_tests) in
    ap (locate_of g) sum ∙ far_chain g (g.nindir + m) ∙ rw (far, back, near) refl

three_levels : (g : Geometry) (m : ℕ) → locate_of g (12 + g.nindir + g.nindir ^ 2 + m) ≡ Three (m / g.nindir ^ 2) (m / g.nindir % g.nindir) (m % g.nindir)
three_levels g m =
    let square = g.nindir ^ 2 in
    let sum : 12 + g.nindir + g.nindir ^ 2 + m ≡ 12 + (g.nindir + (g.nindir ^ 2 + m)) = omega arith in
    let far : nat_lt (g.nindir + (g.nindir ^ 2 + m)) g.nindir ≡ false = grind (arith, nat_tests) in
    let back : g.nindir + (g.nindir ^ 2 + m) - g.nindir ≡ g.nindir ^ 2 + m = omega arith in
    let further : nat_lt (g.nindir ^ 2 + m) (g.nindir ^ 2) ≡ false = grind (arith, nat_tests) in
    let rest : g.nindir ^ 2 + m - g.nindir ^ 2 ≡ m = omega arith in
    ap (locate_of g) sum ∙ far_chain g (g.nindir + (g.nindir ^ 2 + m)) ∙ rw (far, back, further, rest) refl

-- ---- from a slot

-- what is read through one level, and through more
record Same (one other : Consulted Address) : Type 0 where
  value : one.value ≡ other.value
  needs : (b : ℕ) → Contains other.needs b → Contains one.needs b

leads_by : (g : Geometry) (inode : Inode) (v : Volume) (k n : ℕ) (at : Address) → ((m : ℕ) → m < g.nindir ^ k → Same (file_block_of g inode (n + m) v) (descend g k m at v)) → Leads g inode v k n at
leads_by g inode v k n at each = record { value = λ m low. (each m low).value; needs = λ m b low h. (each m low).needs b h }

by_chain : (g : Geometry) (inode : Inode) (v : Volume) (n : ℕ) (chain : Chain) (other : Consulted Address) → locate_of g n ≡ chain → Same (chain_address g inode chain v) other → Same (file_block_of g inode n v) other
unfolding file_block_of
by_chain g inode v n chain other is same = rw is same

direct_chain : (g : Geometry) (slot : ℕ) → slot < 12 → locate_of g slot ≡ Direct slot
unfolding locate_of
direct_chain g slot low = let near : nat_lt slot 12 ≡ true = grind (arith, nat_tests) in rw near refl

direct_leads : (g : Geometry) (inode : Inode) (v : Volume) (slot : ℕ) → slot < 12 → Leads g inode v 0 slot (slot_address g inode slot)
unfolding descend
direct_leads g inode v slot low = leads_by g inode v 0 slot (slot_address g inode slot) (λ m few.
    let none = power_none g.nindir in
    let here : slot + m ≡ slot = omega arith in
    by_chain g inode v (slot + m) (Direct slot) (descend g 0 m (slot_address g inode slot) v) (ap (locate_of g) here ∙ direct_chain g slot low)
    (record { value = refl; needs = λ b h. h }))

-- one level
same_one : (g : Geometry) (v : Volume) (m : ℕ) (at : Address) → Same (through g m at v) (descend g 1 m at v)
unfolding bind through descend
same_one g v m at = rw (divided g.nindir m) (record { value = refl; needs = λ b h. rw (append-nil ((through g m at v).needs)) at h })

-- one more
same_more : (g : Geometry) (v : Volume) (k m i : ℕ) (rest : Address → Reading Address) (at : Address) → m / g.nindir ^ k ≡ i
    → ((next : Address) → Same (rest next v) (descend g k (m % g.nindir ^ k) next v)) → Same ((through g i at >>= rest) v) (descend g (suc k) m at v)
unfolding bind through descend
same_more g v k m i rest at is each =
    let here = each ((through g i at v).value) in
    rw is (record {
      value = here.value;
      needs = λ b h. elim (Contains-append_cases ((through g i at v).needs) ((descend g k (m % g.nindir ^ k) ((through g i at v).value) v).needs) b h) [
        | inl first ↦ Contains-append_left ((through g i at v).needs) ((rest ((through g i at v).value) v).needs) b first
        | inr second ↦ Contains-append_right ((through g i at v).needs) ((rest ((through g i at v).value) v).needs) b (here.needs b second)
      ];
    })

same_two : (g : Geometry) (v : Volume) (m i j : ℕ) (at : Address) → m / g.nindir ^ 1 ≡ i → m % g.nindir ^ 1 ≡ j → Same ((through g i at >>= through g j) v) (descend g 2 m at v)
same_two g v m i j at is rest = same_more g v 1 m i (through g j) at is (λ next. rw rest (same_one g v j next))

module _ (g : Geometry) (inode : Inode) (v : Volume) (some : 0 < g.nindir) where
  one_leads : Leads g inode v 1 12 (slot_address g inode 12)
  one_leads = leads_by g inode v 1 12 (slot_address g inode 12) (λ m few.
      by_chain g inode v (12 + m) (One m) (descend g 1 m (slot_address g inode 12) v) (one_level g m (rw (← power_one g.nindir) few)) (same_one g v m (slot_address g inode 12)))

  two_leads : Leads g inode v 2 (12 + g.nindir) (slot_address g inode 13)
  two_leads = leads_by g inode v 2 (12 + g.nindir) (slot_address g inode 13) (λ m few.
      by_chain g inode v (12 + g.nindir + m) (Two (m / g.nindir) (m % g.nindir)) (descend g 2 m (slot_address g inode 13) v) (two_levels g m few)
      (same_two g v m (m / g.nindir) (m % g.nindir) (slot_address g inode 13) (rw (power_one g.nindir) refl) (rw (power_one g.nindir) refl)))

  three_leads : Leads g inode v 3 (12 + g.nindir + g.nindir ^ 2) (slot_address g inode 14)
  three_leads = leads_by g inode v 3 (12 + g.nindir + g.nindir ^ 2) (slot_address g inode 14) (λ m few.
      by_chain g inode v (12 + g.nindir + g.nindir ^ 2 + m) (Three (m / g.nindir ^ 2) (m / g.nindir % g.nindir) (m % g.nindir)) (descend g 3 m (slot_address g inode 14) v) (three_levels g m)
      (same_more g v 2 m (m / g.nindir ^ 2) (λ two. through g (m / g.nindir % g.nindir) two >>= through g (m % g.nindir)) (slot_address g inode 14) refl (λ next.
      same_two g v (m % g.nindir ^ 2) (m / g.nindir % g.nindir) (m % g.nindir) next
      (rw (power_one g.nindir) (upper_digit g.nindir m some)) (rw (power_one g.nindir) (lower_digit g.nindir m some)))))

  pub slot_leads : (slot : ℕ) → slot < 15 → Leads g inode v (slot - 11) (first_block g slot) (slot_address g inode slot)
  slot_leads slot low = elim (cases_lt slot 12) [
    | inl direct ↦
        let level : slot - 11 ≡ 0 = omega arith in
        let apart : (slot == 13) ≡ false = grind (arith, nat_tests) in
        let other : (slot == 14) ≡ false = grind (arith, nat_tests) in
        rw (level, apart, other) (direct_leads g inode v slot direct)
    | inr high ↦ far (slot - 12) (omega arith)
  ]
    where
      far : (k : ℕ) → slot ≡ 12 + k → Leads g inode v (slot - 11) (first_block g slot) (slot_address g inode slot)
      far zero is = rw is one_leads
      far (suc zero) is = rw is two_leads
      far (suc (suc zero)) is = rw is three_leads
      far (suc (suc (suc k))) is = absurd (omega arith)

-- ---- one level down

pub step_leads : (g : Geometry) (inode : Inode) (v : Volume) (k n p : ℕ) (at : Address) → 0 < g.nindir → p < g.nindir → Leads g inode v (suc k) n at
    → Leads g inode v k (n + p * g.nindir ^ k) ((through g p at v).value)
unfolding bind descend
step_leads g inode v k n p at some low leads = leads_by g inode v k (n + p * g.nindir ^ k) ((through g p at v).value) (λ m few.
    let size = g.nindir ^ k in
    let sum : n + p * g.nindir ^ k + m ≡ n + (p * g.nindir ^ k + m) = omega arith in
    let next : (p + 1) * g.nindir ^ k ≤ g.nindir * g.nindir ^ k = mul-le-mul_right (g.nindir ^ k) (let h : p + 1 ≤ g.nindir = omega arith in h) in
    let parts : (p + 1) * g.nindir ^ k ≡ p * g.nindir ^ k + g.nindir ^ k = grind (arith) in
    let whole : g.nindir ^ suc k ≡ g.nindir * g.nindir ^ k = pow-succ' g.nindir k in
    let inside : p * g.nindir ^ k + m < g.nindir ^ suc k = omega arith in
    let index = div-mul-add p (g.nindir ^ k) m few in
    let rest = mod-mul-add p (g.nindir ^ k) m few in
    record {
      value = ap (λ i. (file_block_of g inode i v).value) sum ∙ leads.value (p * g.nindir ^ k + m) inside ∙ rw (index, rest) refl;
      needs = λ b h. rw sum (leads.needs (p * g.nindir ^ k + m) b inside (rw (index, rest) (Contains-append_right ((through g p at v).needs) ((descend g k m ((through g p at v).value) v).needs) b h)));
    })

-- the first of the file blocks needs what its address takes
pub first_needs : (g : Geometry) (inode : Inode) (v : Volume) (k n b : ℕ) (at : Address) → 0 < g.nindir → Leads g inode v (suc k) n at
    → Contains ((through g 0 at v).needs) b → Contains ((file_block_of g inode n v).needs) b
unfolding bind descend
first_needs g inode v k n b at some leads h =
    let size = power_some g.nindir k some in
    let whole = power_some g.nindir (suc k) some in
    let here : n + 0 ≡ n = omega arith in
    let index : 0 / g.nindir ^ k ≡ 0 = omega arith in
    subst (λ (x : ℕ). Contains ((file_block_of g inode x v).needs) b) here (leads.needs 0 b whole (rw index (Contains-append_left ((through g 0 at v).needs) _ b h)))

-- at the lowest level the address is that of the file block
pub first_value : (g : Geometry) (inode : Inode) (v : Volume) (n : ℕ) (at : Address) → Leads g inode v 0 n at → (file_block_of g inode n v).value ≡ at
unfolding descend
first_value g inode v n at leads =
    let none = power_none g.nindir in
    let here : n + 0 ≡ n = omega arith in
    sym (ap (λ (m : ℕ). (file_block_of g inode m v).value) here) ∙ leads.value 0 (omega arith)
