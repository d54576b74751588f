-- Gathering entries, one after the other.
use Rattle.std.proofs.Common.{◌≡◌, ◌∙◌, Bool, true, false, List, [], ◌∷◌, ◌++◌, Option, refl, sym, ap, append_assoc, append-nil}
use Rattle.std.specs.Prelude.{filter, if◌then◌else◌, map}
use Rattle.std.proofs.lemmas.List.{map-append}
use Rattle.ufs_model.specs.Blocks.{Volume}
use Rattle.ufs_model.specs.Chunks.{DirEntry, is_used_entry, used_entries}
use Rattle.ufs_model.specs.Malformations.{inode_at}
use Rattle.ufs_model.specs.declared.geometries.Geometry.{Geometry}
use Rattle.ufs_model.specs.declared.inodes.Inode.{Inode}
use Rattle.ufs_check.specs.OwnedEntries.{Completes, Sees, kind_in, seen_all, seen_in}
use Rattle.ufs_check.specs.declared.owned_entries.OwnedEntry.{OwnedEntry}

-- ---- one entry

sees_used : (g : Geometry) (v : Volume) (entry : DirEntry) (named : Option Inode) (used : Bool) (old new : List OwnedEntry) → used ≡ true → named ≡ inode_at g v entry.inode
    → seen_all new ≡ seen_all old ++ (entry, kind_in named) ∷ [] → seen_all new ≡ seen_all old ++ map (seen_in g v) (if used then entry ∷ [] else [])
sees_used g v entry named true old new used is one = one ∙ ap (λ o. seen_all old ++ (entry, kind_in o) ∷ []) is
sees_used g v entry named false old new used is one = let no : false ≡ true = used in cc

pub sees_one : (g : Geometry) (v : Volume) (entry : DirEntry) (named : Option Inode) (old new : List OwnedEntry) → is_used_entry entry ≡ true → named ≡ inode_at g v entry.inode
    → seen_all new ≡ seen_all old ++ (entry, kind_in named) ∷ [] → Sees g v (used_entries (entry ∷ [])) old new
sees_one g v entry named old new used is one = sees_used g v entry named (is_used_entry entry) old new used is one

sees_unused : (g : Geometry) (v : Volume) (entry : DirEntry) (used : Bool) (old : List OwnedEntry) → used ≡ false
    → seen_all old ≡ seen_all old ++ map (seen_in g v) (if used then entry ∷ [] else [])
sees_unused g v entry true old unused = let no : true ≡ false = unused in cc
sees_unused g v entry false old unused = sym (append-nil (seen_all old))

pub sees_none : (g : Geometry) (v : Volume) (entry : DirEntry) (old : List OwnedEntry) → is_used_entry entry ≡ false → Sees g v (used_entries (entry ∷ [])) old old
sees_none g v entry old unused = sees_unused g v entry (is_used_entry entry) old unused

-- ---- some entries, and then the others

used_first : (entry : DirEntry) (entries : List DirEntry) (used : Bool) → (if used then entry ∷ filter is_used_entry entries else filter is_used_entry entries) ≡ (if used then entry ∷ [] else []) ++ filter is_used_entry entries
used_first entry entries true = refl
used_first entry entries false = refl

pub used_cons : (entry : DirEntry) (entries : List DirEntry) → used_entries (entry ∷ entries) ≡ used_entries (entry ∷ []) ++ used_entries entries
used_cons entry entries = used_first entry entries (is_used_entry entry)

append_next : {A : Type 0} (now new some rest whole here : List A) → here ≡ some ++ rest → new ≡ now ++ some → now ++ here ≡ whole → new ++ rest ≡ whole
append_next now new some rest whole here here_is new_is so_far =
    ap (λ x. x ++ rest) new_is ∙ append_assoc now some rest ∙ ap (λ x. now ++ x) (sym here_is) ∙ so_far

pub completes_next : (g : Geometry) (v : Volume) (all here some rest : List DirEntry) (old now new : List OwnedEntry) → here ≡ some ++ rest
    → Completes g v all here old now → Sees g v some now new → Completes g v all rest old new
completes_next g v all here some rest old now new is so_far one =
    append_next (seen_all now) (seen_all new) (map (seen_in g v) some) (map (seen_in g v) rest) (seen_all old ++ map (seen_in g v) all) (map (seen_in g v) here)
    (ap (map (seen_in g v)) is ∙ map-append (seen_in g v) some rest) one so_far

-- nothing is left
pub completes_end : (g : Geometry) (v : Volume) (all rest : List DirEntry) (old now : List OwnedEntry) → rest ≡ [] → Completes g v all rest old now → Sees g v all old now
completes_end g v all rest old now none so_far = sym (append-nil (seen_all now)) ∙ ap (λ es. seen_all now ++ map (seen_in g v) es) (sym none) ∙ so_far
