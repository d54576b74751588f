-- Whether anything is wrong with what the disks of a group have. The rules are this project's own.
use Rattle.std.specs.Prelude.{◌≡◌, ◌-◌, ◌*◌, ◌&&◌, ◌||◌, ◌==◌, nat_lt, ℕ, List, [], ◌∷◌, Bool, true, false}
use Rattle.dg_io.specs.declared.outside.Rack.{Ghosts}
use Rattle.dg_parity.specs.Exclusive.{xor_upto}
use Rattle.dg_parity.specs.Stripes.{disk_length, spot_of, stripes_of}
use Rattle.dg_parity.specs.Kept.{all_upto, made_by}
use Rattle.dg_parity.specs.declared.groups.Group.{Group}

-- at each place of the stripes the exclusive or over all disks is zero
abbrev pub is_even : ℕ → ℕ → (ℕ → ℕ → ℕ) → Bool
is_even n size has = all_upto (λ x. nat_lt x 512 || (xor_upto (λ j. has j x) n == 0)) (disk_length n size)

-- each place of a chunk behind the member's last byte is zero
abbrev pub is_clear : ℕ → ℕ → (ℕ → ℕ → ℕ) → Bool
is_clear n size has = all_upto (λ b. nat_lt b size || (has (spot_of n b).disk (spot_of n b).place == 0)) (stripes_of n size * (n - 1) * 512)

-- The parity of a group is right, and no byte stands behind its member's end: by what its disks have, one that is out by the others.
unfoldable pub is_sound : {S : Type 0} → Ghosts S → Group → S → Bool
is_sound rack group now = is_even group.disks group.length (made_by rack group now) && is_clear group.disks group.length (made_by rack group now)

-- what is remembered of that: nothing, or something
abbrev pub doubts_if : Bool → List ℕ
doubts_if true = []
doubts_if false = 0 ∷ []

-- the same group, and what is remembered of it
abbrev pub IsJudged : Group → Group → Type 0
IsJudged old new = new ≡ record old { doubts = new.doubts }
