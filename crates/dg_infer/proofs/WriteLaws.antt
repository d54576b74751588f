-- What an inference stands for after a write.
use Rattle.std.specs.Int.{div_ceil}
use Rattle.dg_io.specs.declared.views.View.{Ghosts}
use Rattle.ufs_pointer.specs.KindLaws.{loses_along}
use Rattle.dg_infer.specs.Areas.{IsFrom}
use Rattle.dg_infer.specs.Writes.{LosesWhole, LosesWholeBy, LosesWritten, LosesWrittenTo}
use Rattle.std.proofs.lemmas.List.{append-nil}
use Rattle.ufs_model.specs.Metadata.{IsMetadata, by_geometry, of_superblock}
use Rattle.ufs_model.specs.Superblocks.{geometry_of, superblock_of}
use Rattle.ufs_pointer.specs.Fetches.{IsNeeded}
use Rattle.std.proofs.Common.{◌≡◌, ◌∙◌, ◌↔◌, ◌⊎◌, ◌/◌, ℕ, ◌<◌, inl, inr, List, [], Bool, true, false, Option, Some, None, length, refl, sym, ap, subst, arith, Contains}
use Rattle.std.proofs.lemmas.Bool.{false≢true}
use Rattle.std.specs.Prelude.{slice_set, Err, Ok}
use Rattle.dg_model.specs.Marks.{IsKnown, is_marked, with_mark}
use Rattle.dg_model.specs.Volumes.{geometry_on}
use Rattle.ufs_model.specs.Blocks.{Volume, bind}
use Rattle.ufs_model.specs.Claims.{IsClaim, source_fragments}
use Rattle.ufs_model.specs.declared.claims.ClaimSource.{ClaimSource}
use Rattle.ufs_model.specs.declared.geometries.BadSuper.{BadSuper}
use Rattle.ufs_model.specs.declared.geometries.Geometry.{Geometry}
use Rattle.ufs_model.specs.declared.inodes.Kind.{Kind}
use Rattle.dg_claims.specs.Kept.{KeptClaims, table_of}
use Rattle.dg_claims.specs.Tables.{ClaimTable, HasClaims, IsTableOf, TableClaims, accepted}
use Rattle.dg_infer.proofs.KindLaws.{kinds_moved}
use Rattle.dg_infer.proofs.VolumeLaws.{accepted_none, accepted_some, empty_list, known_by, length_mark, marked_with, super_off}
use Rattle.dg_infer.specs.Changes.{AreClaims}
use Rattle.dg_infer.specs.Claimed.{StandsIn}
use Rattle.dg_infer.specs.Known.{HasClaim, IsKnownBy, is_system_by}
use Rattle.dg_infer.specs.Meanings.{AreParts, ClaimsOn, KeptInference, StandsFor, free_by, free_on, kind_at, kind_by, kind_on}
use Rattle.dg_infer.specs.Moves.{Follows, with_pending}
use Rattle.dg_infer.specs.Watches.{IsWatched}
use Rattle.dg_infer.specs.declared.watches.Touch.{Touch}

-- The laws of dg_claims on tables that are used.
pub record TableLaws : Type 0 where
  pub accepted : (l n : ℕ) (v : Volume) (table : ClaimTable) (g : Geometry) → geometry_on l n v ≡ Ok g → table.geometry ≡ Some g → HasClaims table (IsClaim (source_fragments g v)) → IsTableOf l n v table
  pub refused : (l n : ℕ) (v : Volume) (table : ClaimTable) (bad : BadSuper) → geometry_on l n v ≡ Err bad → table.geometry ≡ None → ((source : ClaimSource) → table.claimed source ≡ []) → IsTableOf l n v table
  pub claims : (l n : ℕ) (v : Volume) (table : ClaimTable) (g : Geometry) → IsTableOf l n v table → table.geometry ≡ Some g → HasClaims table (IsClaim (source_fragments g v))

-- ---- a table by the claims of a volume

pub table_from : TableLaws → (l n : ℕ) (w : Volume) (g : Option Geometry) (table : ClaimTable) → g ≡ accepted (geometry_on l n w) → table.geometry ≡ g → HasClaims table (ClaimsOn w g) → IsTableOf l n w table
table_from laws l n w None table is has claims =
    let bad = accepted_none (geometry_on l n w) is in
    laws.refused l n w table (bad.0) (bad.1) has (λ source. empty_list (table.claimed source) (λ fragment at. (claims fragment source).0 at))
table_from laws l n w (Some g) table is has claims = laws.accepted l n w table g (accepted_some (geometry_on l n w) g is) has claims

pub claims_by : TableLaws → (l n : ℕ) (v : Volume) (g : Geometry) (table : ClaimTable) → table.geometry ≡ Some g → IsTableOf l n v table → AreClaims (source_fragments g v) table.claimed
claims_by laws l n v g table has of = record { each = laws.claims l n v table g of has }

-- ---- the geometry stays

-- no block that was pending was known
pub bare_before : (kept : KeptInference) (v : Volume) → StandsFor kept v → (b : ℕ) → is_marked kept.pending b ≡ true → HasClaim ((table_of kept.claims).claimed) b → ⊥
bare_before kept v stands b t claim = stands.pending b t (inr (claim.0, (stands.claims.claims b (claim.0)).0 (claim.1)))

own_before : (kept : KeptInference) (v : Volume) (b : ℕ) → StandsFor kept v → is_marked kept.pending b ≡ true → is_system_by kept.geometry b ≡ true → ⊥
own_before kept v b stands t system = stands.pending b t ((known_by kept.l kept.n v kept.geometry (table_of kept.claims) b stands.geometry stands.claims).1 (inl system))

not_true : (b : Bool) → (b ≡ true → ⊥) → b ≡ false
not_true true none = absurd (none refl)
not_true false none = refl

-- the marks that are left are those of the blocks that aren't known
pub left_marks : (kept : KeptInference) (w : Volume) (table : ClaimTable) (marks : List Bool) (block : ℕ) (system : Bool) → block < length kept.pending
    → ((b : ℕ) → is_marked kept.pending b ≡ true → is_system_by kept.geometry b ≡ true → ⊥)
    → kept.geometry ≡ accepted (geometry_on kept.l kept.n w) → IsTableOf kept.l kept.n w table → system ≡ is_system_by kept.geometry block
    → ((b : ℕ) → (is_marked marks b ≡ true) ↔ (((is_marked kept.pending b ≡ true) ⊎ (b ≡ block)) × (HasClaim table.claimed b → ⊥) × (b ≡ block → system ≡ false)))
    → (b : ℕ) → (is_marked marks b ≡ true) ↔ ((is_marked (with_mark kept.pending block) b ≡ true) × (IsKnown kept.l kept.n w b → ⊥))
left_marks kept w table marks block system inside apart is of own now b =
    let known = known_by kept.l kept.n w kept.geometry table b is of in
    let had = marked_with kept.pending block inside b in (
      λ t.
          let parts = (now b).0 t in (
            had.1 (parts.0),
            λ k. elim (known.0 k) [
              | inr claim ↦ parts.1 claim
              | inl own_block ↦ elim (parts.0) [
                | inl was ↦ apart b was own_block
                | inr e ↦ false≢true (sym (parts.2 e) ∙ own ∙ ap (is_system_by kept.geometry) (sym e) ∙ own_block)
              ]
            ],
          ),
      λ both. (now b).1 (
        had.0 (both.0),
        λ claim. both.1 (known.1 (inr claim)),
        λ e. not_true system (λ t. both.1 (known.1 (inl (ap (is_system_by kept.geometry) e ∙ sym own ∙ t)))),
      ),
    )

-- ---- what stands

-- kinds and marks by a geometry that is there
pub kinds_by : (v : Volume) (g : Geometry) (o : Option Geometry) (kinds : List (ℕ × Kind)) → o ≡ Some g → ((i : ℕ) → kind_at kinds i ≡ kind_on v o i) → (i : ℕ) → kind_at kinds i ≡ kind_by g v i
kinds_by v g o kinds is has i = has i ∙ ap (λ x. kind_on v x i) is

pub kinds_on : (v : Volume) (g : Geometry) (o : Option Geometry) (kinds : List (ℕ × Kind)) → o ≡ Some g → ((i : ℕ) → kind_at kinds i ≡ kind_by g v i) → (i : ℕ) → kind_at kinds i ≡ kind_on v o i
kinds_on v g o kinds is has i = has i ∙ sym (ap (λ x. kind_on v x i) is)

pub free_by_of : (v : Volume) (g : Geometry) (o : Option Geometry) (marks : List Bool) → o ≡ Some g → ((b : ℕ) → is_marked marks b ≡ free_on v o b) → (b : ℕ) → is_marked marks b ≡ free_by g v b
free_by_of v g o marks is has b = has b ∙ ap (λ x. free_on v x b) is

pub free_on_of : (v : Volume) (g : Geometry) (o : Option Geometry) (marks : List Bool) → o ≡ Some g → ((b : ℕ) → is_marked marks b ≡ free_by g v b) → (b : ℕ) → is_marked marks b ≡ free_on v o b
free_on_of v g o marks is has b = has b ∙ sym (ap (λ x. free_on v x b) is)

-- the inference with other parts, and the same geometry
abbrev pub shown : KeptInference → KeptClaims → List (ℕ × Kind) → List Bool → List Bool → KeptInference
shown old claims kinds pending free = record { l = old.l; n = old.n; geometry = old.geometry; claims = claims; kinds = kinds; pending = pending; free = free }

-- ---- after a write, where the geometry stays

pub kept_by : TableLaws → (old : KeptInference) (g : Geometry) (v : Volume) (block : ℕ) (bytes : List ℕ) (claims : KeptClaims) (kinds : List (ℕ × Kind)) (free : List Bool) (touches : List Touch)
    → old.geometry ≡ Some g → (table_of old.claims).geometry ≡ Some g → (table_of claims).geometry ≡ Some g → StandsFor old v
    → old.geometry ≡ accepted (geometry_on old.l old.n (slice_set v block bytes))
    → (AreClaims (source_fragments g v) ((table_of old.claims).claimed) → AreClaims (source_fragments g (slice_set v block bytes)) ((table_of claims).claimed))
    → ((i : ℕ) → StandsIn g i block → kind_at kinds i ≡ kind_by g (slice_set v block bytes) i) → ((i : ℕ) → (StandsIn g i block → ⊥) → kind_at kinds i ≡ kind_at old.kinds i)
    → (((f : ℕ) → is_marked old.free f ≡ free_by g v f) → (f : ℕ) → is_marked free f ≡ free_by g (slice_set v block bytes) f)
    → IsWatched ((table_of old.claims).claimed) ((table_of claims).claimed) touches
    → Follows (shown old claims kinds old.pending free) (Some touches) (slice_set v block bytes)
kept_by laws old g v block bytes claims kinds free touches known had has stands is step here others marks watched =
    let w = slice_set v block bytes in
    let are = step (claims_by laws old.l old.n v g (table_of old.claims) had stands.claims) in
    record {
      stands = λ left unknown. record {
        number = length_mark v block bytes ∙ stands.number;
        geometry = is;
        claims = laws.accepted old.l old.n w (table_of claims) g (accepted_some (geometry_on old.l old.n w) g (sym known ∙ is)) has are.each;
        kinds = kinds_on w g old.geometry kinds known (kinds_moved g v block bytes (kind_at old.kinds) (kind_at kinds) (kinds_by v g old.geometry old.kinds known stands.kinds) here others);
        free = free_on_of w g old.geometry free known (marks (free_by_of v g old.geometry old.free known stands.free));
        pending = unknown;
      };
      tells = record {
        before = (table_of old.claims).claimed;
        watched = watched;
        bare = bare_before old v stands;
        own = λ b. own_before old v b stands;
      };
    }

-- without a geometry
pub none_touched : (claimed : ClaimSource → List ℕ) → IsWatched claimed claimed []
none_touched claimed = record { known = λ k past. absurd (omega (arith, past)); others = λ level fragment apart. (λ h. h, λ h. h) }

pub kept_bare : TableLaws → (old : KeptInference) (v : Volume) (block : ℕ) (bytes : List ℕ) → old.geometry ≡ None → (table_of old.claims).geometry ≡ None
    → ((fragment : ℕ) (source : ClaimSource) → TableClaims (table_of old.claims) fragment source → ⊥) → StandsFor old v
    → old.geometry ≡ accepted (geometry_on old.l old.n (slice_set v block bytes)) → Follows old (Some []) (slice_set v block bytes)
kept_bare laws old v block bytes none has empty stands is =
    let w = slice_set v block bytes in
    record {
      stands = λ left unknown. record {
        number = length_mark v block bytes ∙ stands.number;
        geometry = is;
        claims = table_from laws old.l old.n w None (table_of old.claims) (sym none ∙ is) has (λ fragment source. (λ h. empty fragment source h, λ h. absurd h));
        kinds = λ i. stands.kinds i ∙ ap (λ o. kind_on v o i) none ∙ sym (ap (λ o. kind_on w o i) none);
        free = λ b. stands.free b ∙ ap (λ o. free_on v o b) none ∙ sym (ap (λ o. free_on w o b) none);
        pending = unknown;
      };
      tells = record {
        before = (table_of old.claims).claimed;
        watched = none_touched ((table_of old.claims).claimed);
        bare = bare_before old v stands;
        own = λ b. own_before old v b stands;
      };
    }

-- ---- read anew

pub stands_anew : TableLaws → (l n : ℕ) (w : Volume) (g : Option Geometry) (claims : KeptClaims) (kinds : List (ℕ × Kind)) (pending free before : List Bool) → length w ≡ n
    → g ≡ accepted (geometry_on l n w) → (table_of claims).geometry ≡ g → AreParts w g (table_of claims) kinds free
    → ((b : ℕ) → (is_marked pending b ≡ true) ↔ ((is_marked before b ≡ true) × (IsKnownBy g ((table_of claims).claimed) b → ⊥)))
    → StandsFor (record { l = l; n = n; geometry = g; claims = claims; kinds = kinds; pending = pending; free = free }) w
    × ((b : ℕ) → (is_marked pending b ≡ true) ↔ ((is_marked before b ≡ true) × (IsKnown l n w b → ⊥)))
stands_anew laws l n w g claims kinds pending free before number is has parts left =
    let table = table_from laws l n w g (table_of claims) is has parts.claims in
    let known = λ (b : ℕ). known_by l n w g (table_of claims) b is table in (
      record {
        number = number;
        geometry = is;
        claims = table;
        kinds = parts.kinds;
        free = parts.free;
        pending = λ b t k. ((left b).0 t).1 ((known b).0 k);
      },
      λ b. (
        λ t. let both = (left b).0 t in (both.0, λ k. both.1 ((known b).0 k)),
        λ both. (left b).1 (both.0, λ k. both.1 ((known b).1 k)),
      ),
    )

-- more marks come from the block alone
pub marks_fewer : (old new : List Bool) (block : ℕ) → block < length old → ((b : ℕ) → is_marked new b ≡ true → (is_marked old b ≡ true) ⊎ (b ≡ block))
    → (b : ℕ) → is_marked new b ≡ true → is_marked (with_mark old block) b ≡ true
marks_fewer old new block inside fewer b t = (marked_with old block inside b).1 (fewer b t)

-- an inference with these parts
pub shown_is : (new : KeptInference) (l n : ℕ) (g : Option Geometry) (claims : KeptClaims) (kinds : List (ℕ × Kind)) (free : List Bool) → new.l ≡ l → new.n ≡ n → new.geometry ≡ g
    → new.claims ≡ claims → new.kinds ≡ kinds → new.free ≡ free → record { l = l; n = n; geometry = g; claims = claims; kinds = kinds; pending = new.pending; free = free } ≡ new
shown_is new l n g claims kinds free l_is n_is g_is claims_is kinds_is free_is =
    let Is : KeptInference → Type 0 = λ k. k ≡ new in
    subst (λ (x : ℕ). Is (record { l = x; n = n; geometry = g; claims = claims; kinds = kinds; pending = new.pending; free = free })) l_is
    (subst (λ (x : ℕ). Is (record { l = new.l; n = x; geometry = g; claims = claims; kinds = kinds; pending = new.pending; free = free })) n_is
    (subst (λ (x : Option Geometry). Is (record { l = new.l; n = new.n; geometry = x; claims = claims; kinds = kinds; pending = new.pending; free = free })) g_is
    (subst (λ (x : KeptClaims). Is (record { l = new.l; n = new.n; geometry = new.geometry; claims = x; kinds = kinds; pending = new.pending; free = free })) claims_is
    (subst (λ (x : List (ℕ × Kind)). Is (record { l = new.l; n = new.n; geometry = new.geometry; claims = new.claims; kinds = x; pending = new.pending; free = free })) kinds_is
    (subst (λ (x : List Bool). Is (record { l = new.l; n = new.n; geometry = new.geometry; claims = new.claims; kinds = new.kinds; pending = new.pending; free = x })) free_is refl)))))

pub stands_shown : (new : KeptInference) (l n : ℕ) (g : Option Geometry) (claims : KeptClaims) (kinds : List (ℕ × Kind)) (free : List Bool) (w : Volume) → new.l ≡ l → new.n ≡ n → new.geometry ≡ g
    → new.claims ≡ claims → new.kinds ≡ kinds → new.free ≡ free
    → StandsFor (record { l = l; n = n; geometry = g; claims = claims; kinds = kinds; pending = new.pending; free = free }) w → StandsFor new w
stands_shown new l n g claims kinds free w l_is n_is g_is claims_is kinds_is free_is stands =
    subst (λ (k : KeptInference). StandsFor k w) (shown_is new l n g claims kinds free l_is n_is g_is claims_is kinds_is free_is) stands

-- the same, read anew after a write
pub follows_anew : TableLaws → (new : KeptInference) (l n : ℕ) (w : Volume) (g : Option Geometry) (claims : KeptClaims) (kinds : List (ℕ × Kind)) (free : List Bool)
    → record { l = l; n = n; geometry = g; claims = claims; kinds = kinds; pending = new.pending; free = free } ≡ new → length w ≡ n
    → g ≡ accepted (geometry_on l n w) → (table_of claims).geometry ≡ g → AreParts w g (table_of claims) kinds free → Follows new None w
follows_anew laws new l n w g claims kinds free shown number is has parts =
    subst (λ (k : KeptInference). Follows k None w) shown (record {
      stands = λ left unknown. record {
        number = number;
        geometry = is;
        claims = table_from laws l n w g (table_of claims) is has parts.claims;
        kinds = parts.kinds;
        free = parts.free;
        pending = unknown;
      };
      tells = tt;
    })

-- ---- the marks move

-- a volume that was followed is known by what is kept
pub followed_by : (kept : KeptInference) (moved : Option (List Touch)) (w : Volume) → Follows kept moved w → StandsFor (with_pending kept []) w
followed_by kept moved w h = h.stands [] (λ b t. absurd (false≢true t))

pub marks_touched : (kept : KeptInference) (touches : List Touch) (w : Volume) (marks : List Bool) (block : ℕ) (system : Bool) → block < length kept.pending → system ≡ is_system_by kept.geometry block
    → ((before : ClaimSource → List ℕ) → IsWatched before ((table_of kept.claims).claimed) touches → ((b : ℕ) → is_marked kept.pending b ≡ true → HasClaim before b → ⊥)
    → (b : ℕ) → (is_marked marks b ≡ true) ↔ (((is_marked kept.pending b ≡ true) ⊎ (b ≡ block)) × (HasClaim ((table_of kept.claims).claimed) b → ⊥) × (b ≡ block → system ≡ false)))
    → Follows kept (Some touches) w → (b : ℕ) → (is_marked marks b ≡ true) ↔ ((is_marked (with_mark kept.pending block) b ≡ true) × (IsKnown kept.l kept.n w b → ⊥))
marks_touched kept touches w marks block system inside own now h =
    let by = followed_by kept (Some touches) w h in
    left_marks kept w (table_of kept.claims) marks block system inside h.tells.own by.geometry by.claims own (now h.tells.before h.tells.watched h.tells.bare)

pub marks_anew : (kept : KeptInference) (w : Volume) (marks : List Bool) (block : ℕ)
    → ((b : ℕ) → (is_marked marks b ≡ true) ↔ ((is_marked (with_mark kept.pending block) b ≡ true) × (IsKnownBy kept.geometry ((table_of kept.claims).claimed) b → ⊥)))
    → Follows kept None w → (b : ℕ) → (is_marked marks b ≡ true) ↔ ((is_marked (with_mark kept.pending block) b ≡ true) × (IsKnown kept.l kept.n w b → ⊥))
marks_anew kept w marks block now h b =
    let by = followed_by kept None w h in
    let known = known_by kept.l kept.n w kept.geometry (table_of kept.claims) b by.geometry by.claims in (
      λ t. let both = (now b).0 t in (both.0, λ k. both.1 (known.0 k)),
      λ both. (now b).1 (both.0, λ k. both.1 (known.1 k)),
    )

-- with the marks that are left it stands for the volume
pub stands_marked : (kept : KeptInference) (moved : Option (List Touch)) (w : Volume) (marks : List Bool) (block : ℕ) → Follows kept moved w
    → ((b : ℕ) → (is_marked marks b ≡ true) ↔ ((is_marked (with_mark kept.pending block) b ≡ true) × (IsKnown kept.l kept.n w b → ⊥))) → StandsFor (with_pending kept marks) w
stands_marked kept moved w marks block h are = h.stands marks (λ b t. ((are b).0 t).1)

-- ---- marks that are left

-- no marks are left of none
pub bare_marks : (marks : List Bool) (P : ℕ → Type 0) → ((b : ℕ) → is_marked marks b ≡ false) → (b : ℕ) → (is_marked marks b ≡ true) ↔ ((is_marked marks b ≡ true) × (P b → ⊥))
bare_marks marks P none b = (λ t. absurd (false≢true (sym (none b) ∙ t)), λ both. both.0)

-- ---- what is gone, where the superblock stays

pub loses_off : {S : Type 0} (view : Ghosts S) (old new : S) (kept : KeptInference) (block : ℕ) (bytes : List ℕ) → (IsFrom (8192 / kept.l) (div_ceil 1376 kept.l) block → ⊥)
    → LosesWrittenTo view old new kept kept.geometry block bytes → LosesWritten view old new kept block bytes
loses_off view old new kept block bytes out lost =
    loses_along refl (λ b h. h) (λ h. h) (λ is w h.
    let made = h.1 in (
      (h, subst (λ (x : Volume). kept.geometry ≡ accepted (geometry_on kept.l kept.n x)) (sym made.written) (made.was.geometry ∙ ap accepted (super_off kept.l kept.n made.before block bytes out))),
      λ b at. at,
    )) lost

-- ---- a volume that is read whole

pub super_needed : (l n : ℕ) (v : Volume) (b : ℕ) → IsNeeded (geometry_of l n) v b → IsMetadata l n v b
unfolding geometry_of bind
super_needed l n v b has = of_superblock (subst (λ (xs : List ℕ). Contains xs b) (append-nil ((superblock_of l n v).needs)) has)

pub loses_whole : {S : Type 0} (view : Ghosts S) (old middle new : S) (o : Option Geometry) → view.count middle ≡ view.count old
    → ((v : Volume) → view.stands_for old v → view.stands_for middle v)
    → (view.tells new → (v : Volume) → view.stands_for old v → o ≡ accepted (geometry_on (view.size old) (view.count old) v))
    → LosesWholeBy view middle new o → LosesWhole view old new
loses_whole view old middle new None count stands is lost = absurd lost
loses_whole view old middle new (Some g) count stands is lost =
    loses_along count (λ b h. h) (λ h. h) (λ told v h. (
      (stands v (h.0), h.1 ∙ sym count),
      λ b at. by_geometry g (accepted_some (geometry_on (view.size old) (view.count old) v) g (is told v (h.0))) at,
    )) lost
