-- The superblock of a built volume, as it is read.
use Rattle.std.proofs.Common.{◌≡◌, ◌∙◌, ℕ, ◌+◌, ◌*◌, ◌%◌, ◌^◌, ◌<◌, ◌≤◌, ◌==◌, Bool, true, false, List, [], ◌∷◌, length, drop, get_or, refl, sym, ap, arith, Some, None}
use Rattle.std.specs.Prelude.{Ok, Err, Result, Option, nat_le, nat_lt, replicate, if◌then◌else◌}
use Rattle.std.proofs.Math.Nat.{mod-eq_of_lt}
use Rattle.std.proofs.lemmas.Grind.{div_ceil_times}
use Rattle.std.proofs.lemmas.Nat.{mod_below, mul-le}
use Rattle.std.proofs.lemmas.Bool.{and_parts, leb-true, ltb-true}
use Rattle.std.proofs.lemmas.List.{length-replicate}
use Rattle.std.proofs.lemmas.Option.{same_Some}
use Rattle.std.specs.Int.{div_ceil}
use Rattle.byteorder.specs.Endian.{big_number}
use Rattle.byteorder.specs.Numbers.{big_from-take}
use Rattle.ufs_model.specs.Geometries.{IsGeometry, IsGeometryOn}
use Rattle.ufs_model.specs.Numbers.{number_at}
use Rattle.ufs_model.specs.Superblocks.{IsSuperblock, endian_of, fields}
use Rattle.ufs_model.specs.declared.geometries.BadSuper.{BadSuper}
use Rattle.ufs_model.specs.declared.geometries.Geometry.{Geometry}
use Rattle.ufs_model.specs.declared.numbers.Endian.{Endian}
use Rattle.ufs_model.specs.declared.numbers.Endian.TheVariants.{Little, Big}
use Rattle.ufs_model.proofs.GeometryLaws.{accepted_is}
use Rattle.ufs_build.specs.Parts.{Part, field_parts, number_bytes}
use Rattle.ufs_build.specs.Volumes.{cblkno_of, dblkno_of, freeoff_of, geometry_of_spec, has_numbers, iblkno_of, if_fits, map_length, maps_fit, read_geometry, superblock_bytes, superblock_fields, volume_of_spec}
use Rattle.ufs_build.specs.declared.parts.Field.{Field}
use Rattle.ufs_build.specs.declared.volumes.Spec.{Spec}
use Rattle.ufs_image_laws.specs.Reads.{Stands}
use Rattle.ufs_image_laws.proofs.ListLaws.{Ascend, Each, EndsBy, Has, ascend_apart, ascend_order, fields_ascend, fields_in_order, has_at, has_field, part_stands}
use Rattle.ufs_image_laws.proofs.NumberLaws.{number_read}

-- ---- the fields

pub ordered : (g : Geometry) → fields_ascend 8 (superblock_fields g) 1376 ≡ true
unfolding superblock_fields
ordered g = refl

pub super_ascends : (g : Geometry) (base : ℕ) → Ascend (base + 8) (field_parts g.endian base (superblock_fields g)) (base + 1376)
super_ascends g base = fields_in_order g.endian base 8 (superblock_fields g) 1376 (ordered g)

pub ascend_ends : (low : ℕ) (xs : List Part) (high n : ℕ) → high ≤ n → Ascend low xs high → Each (EndsBy n) xs
ascend_ends low [] high n le h = tt
ascend_ends low (x ∷ xs) high n le h =
    let order = ascend_order (x.at + length x.bytes) xs high (h.1) in
    (omega arith, ascend_ends (x.at + length x.bytes) xs high n le (h.1))

-- a field of the superblock by itself
alone_stands : (g : Geometry) (x : Field) → Has x (superblock_fields g) → Stands (superblock_bytes g) (0 + x.at) (number_bytes g.endian 4 x.value)
unfolding superblock_bytes
alone_stands g x has =
    part_stands (field_parts g.endian 0 (superblock_fields g)) (record { at = 0 + x.at; bytes = number_bytes g.endian 4 x.value }) (replicate 1376 0) 1376 (length-replicate {A = ℕ} 1376 0)
    (has_field g.endian 0 x (superblock_fields g) has) (ascend_apart (0 + 8) (field_parts g.endian 0 (superblock_fields g)) (0 + 1376) (super_ascends g 0))
    (ascend_ends (0 + 8) (field_parts g.endian 0 (superblock_fields g)) (0 + 1376) 1376 (omega arith) (super_ascends g 0))

alone_read : (g : Geometry) (x : Field) → Has x (superblock_fields g) → number_at g.endian 4 (superblock_bytes g) x.at ≡ x.value % 2 ^ 32
alone_read g x has =
    ap (number_at g.endian 4 (superblock_bytes g)) (let e : x.at ≡ 0 + x.at = omega arith in e) ∙ number_read g.endian 4 x.value (superblock_bytes g) (0 + x.at) (alone_stands g x has)

-- ---- the order of bytes

-- the magic number, read with the highest byte first
pub magic_in : Endian → ℕ
magic_in Big = 0x00011954
magic_in Little = 0x54190100

pub magic_read : (endian : Endian) (image : List ℕ) (at : ℕ) → Stands image at (number_bytes endian 4 0x00011954) → number_at Big 4 image at ≡ magic_in endian
unfolding number_at number_bytes magic_in
magic_read Big image at is = sym (big_from-take 0 4 4 (drop at image) (omega arith)) ∙ ap (big_number 4) is.are
magic_read Little image at is = sym (big_from-take 0 4 4 (drop at image) (omega arith)) ∙ ap (big_number 4) is.are

order_by : (endian : Endian) → (if magic_in endian == 0x00011954 then Big else Little) ≡ endian
unfolding magic_in
order_by Big = refl
order_by Little = refl

pub order_read : (endian : Endian) (bytes : List ℕ) → number_at Big 4 bytes 1372 ≡ magic_in endian → endian_of bytes ≡ endian
unfolding endian_of
order_read endian bytes e = ap (λ (x : ℕ). if x == 0x00011954 then Big else Little) e ∙ order_by endian

-- ---- all fields

-- bytes have the fields of a geometry, each below 2^32
pub record HasFields (bytes : List ℕ) (g : Geometry) : Type 0 where
  pub order : endian_of bytes ≡ g.endian
  pub each : (x : Field) → Has x (superblock_fields g) → number_at g.endian 4 bytes x.at ≡ x.value % 2 ^ 32

field_at : (g : Geometry) (k : ℕ) (x : Field) → k < 21 → get_or (superblock_fields g) k x ≡ x → Has x (superblock_fields g)
unfolding superblock_fields
field_at g k x low e = has_at x (superblock_fields g) k low e

pub magic_field : (g : Geometry) → Has (record { at = 1372; value = 0x00011954 }) (superblock_fields g)
unfolding superblock_fields
magic_field g = field_at g 20 (record { at = 1372; value = 0x00011954 }) (omega arith) refl

pub fields_alone : (g : Geometry) → HasFields (superblock_bytes g) g
fields_alone g = record {
  order = order_read g.endian (superblock_bytes g) (magic_read g.endian (superblock_bytes g) (0 + 1372) (alone_stands g (record { at = 1372; value = 0x00011954 }) (magic_field g)));
  each = alone_read g;
}

-- each number of a geometry has 32 bits
pub record NumbersFit (g : Geometry) : Type 0 where
  pub sblkno : g.sblkno < 2 ^ 32
  pub cblkno : g.cblkno < 2 ^ 32
  pub iblkno : g.iblkno < 2 ^ 32
  pub dblkno : g.dblkno < 2 ^ 32
  pub cgoffset : g.cgoffset < 2 ^ 32
  pub cgmask : g.cgmask < 2 ^ 32
  pub size : g.size < 2 ^ 32
  pub ncg : g.ncg < 2 ^ 32
  pub bsize : g.bsize < 2 ^ 32
  pub fsize : g.fsize < 2 ^ 32
  pub frag : g.frag < 2 ^ 32
  pub nindir : g.nindir < 2 ^ 32
  pub inopb : g.inopb < 2 ^ 32
  pub csaddr : g.csaddr < 2 ^ 32
  pub cssize : g.cssize < 2 ^ 32
  pub cgsize : g.cgsize < 2 ^ 32
  pub ipg : g.ipg < 2 ^ 32
  pub fpg : g.fpg < 2 ^ 32
  pub maxsymlinklen : g.maxsymlinklen < 2 ^ 32

read_fit : (bytes : List ℕ) (g : Geometry) (k at value : ℕ) → HasFields bytes g → k < 21 → get_or (superblock_fields g) k (record { at = at; value = value }) ≡ record { at = at; value = value }
    → value < 2 ^ 32 → number_at g.endian 4 bytes at ≡ value
read_fit bytes g k at value has low e small = has.each (record { at = at; value = value }) (field_at g k (record { at = at; value = value }) low e) ∙ mod-eq_of_lt small

pub fields_stand : (bytes : List ℕ) (g : Geometry) → HasFields bytes g → NumbersFit g → fields g.endian bytes ≡ g
unfolding fields superblock_fields
fields_stand bytes g has fit =
    let e8 : number_at g.endian 4 bytes 8 ≡ g.sblkno = read_fit bytes g 0 8 g.sblkno has (omega arith) refl fit.sblkno in
    let e12 : number_at g.endian 4 bytes 12 ≡ g.cblkno = read_fit bytes g 1 12 g.cblkno has (omega arith) refl fit.cblkno in
    let e16 : number_at g.endian 4 bytes 16 ≡ g.iblkno = read_fit bytes g 2 16 g.iblkno has (omega arith) refl fit.iblkno in
    let e20 : number_at g.endian 4 bytes 20 ≡ g.dblkno = read_fit bytes g 3 20 g.dblkno has (omega arith) refl fit.dblkno in
    let e24 : number_at g.endian 4 bytes 24 ≡ g.cgoffset = read_fit bytes g 4 24 g.cgoffset has (omega arith) refl fit.cgoffset in
    let e28 : number_at g.endian 4 bytes 28 ≡ g.cgmask = read_fit bytes g 5 28 g.cgmask has (omega arith) refl fit.cgmask in
    let e36 : number_at g.endian 4 bytes 36 ≡ g.size = read_fit bytes g 6 36 g.size has (omega arith) refl fit.size in
    let e44 : number_at g.endian 4 bytes 44 ≡ g.ncg = read_fit bytes g 7 44 g.ncg has (omega arith) refl fit.ncg in
    let e48 : number_at g.endian 4 bytes 48 ≡ g.bsize = read_fit bytes g 8 48 g.bsize has (omega arith) refl fit.bsize in
    let e52 : number_at g.endian 4 bytes 52 ≡ g.fsize = read_fit bytes g 9 52 g.fsize has (omega arith) refl fit.fsize in
    let e56 : number_at g.endian 4 bytes 56 ≡ g.frag = read_fit bytes g 10 56 g.frag has (omega arith) refl fit.frag in
    let e116 : number_at g.endian 4 bytes 116 ≡ g.nindir = read_fit bytes g 11 116 g.nindir has (omega arith) refl fit.nindir in
    let e120 : number_at g.endian 4 bytes 120 ≡ g.inopb = read_fit bytes g 12 120 g.inopb has (omega arith) refl fit.inopb in
    let e152 : number_at g.endian 4 bytes 152 ≡ g.csaddr = read_fit bytes g 13 152 g.csaddr has (omega arith) refl fit.csaddr in
    let e156 : number_at g.endian 4 bytes 156 ≡ g.cssize = read_fit bytes g 14 156 g.cssize has (omega arith) refl fit.cssize in
    let e160 : number_at g.endian 4 bytes 160 ≡ g.cgsize = read_fit bytes g 15 160 g.cgsize has (omega arith) refl fit.cgsize in
    let e184 : number_at g.endian 4 bytes 184 ≡ g.ipg = read_fit bytes g 16 184 g.ipg has (omega arith) refl fit.ipg in
    let e188 : number_at g.endian 4 bytes 188 ≡ g.fpg = read_fit bytes g 17 188 g.fpg has (omega arith) refl fit.fpg in
    let e1320 : number_at g.endian 4 bytes 1320 ≡ g.maxsymlinklen = read_fit bytes g 18 1320 g.maxsymlinklen has (omega arith) refl fit.maxsymlinklen in
    rw (e8, e12, e16, e20, e24, e28, e36, e44, e48, e52, e56, e116, e120, e152, e156, e160, e184, e188, e1320) refl

pub is_superblock : (bytes : List ℕ) (l n : ℕ) (g : Geometry) → HasFields bytes g → NumbersFit g → IsGeometryOn l n g → IsSuperblock bytes l n g
unfolding superblock_fields
is_superblock bytes l n g has fit on = record {
  order = has.order;
  magic = read_fit bytes g 20 1372 0x00011954 has (omega arith) refl (omega arith);
  inodefmt = read_fit bytes g 19 1324 2 has (omega arith) refl (omega arith);
  stands = fields_stand bytes g has fit;
  geometry = on;
}

-- ---- the geometry of a spec

-- the numbers of a geometry are the lowest 32 bits of another's
pub record AreCut (g0 g : Geometry) : Type 0 where
  pub endian : g.endian ≡ g0.endian
  pub sblkno : g.sblkno ≡ g0.sblkno % 2 ^ 32
  pub cblkno : g.cblkno ≡ g0.cblkno % 2 ^ 32
  pub iblkno : g.iblkno ≡ g0.iblkno % 2 ^ 32
  pub dblkno : g.dblkno ≡ g0.dblkno % 2 ^ 32
  pub cgoffset : g.cgoffset ≡ g0.cgoffset % 2 ^ 32
  pub cgmask : g.cgmask ≡ g0.cgmask % 2 ^ 32
  pub size : g.size ≡ g0.size % 2 ^ 32
  pub ncg : g.ncg ≡ g0.ncg % 2 ^ 32
  pub bsize : g.bsize ≡ g0.bsize % 2 ^ 32
  pub fsize : g.fsize ≡ g0.fsize % 2 ^ 32
  pub frag : g.frag ≡ g0.frag % 2 ^ 32
  pub nindir : g.nindir ≡ g0.nindir % 2 ^ 32
  pub inopb : g.inopb ≡ g0.inopb % 2 ^ 32
  pub csaddr : g.csaddr ≡ g0.csaddr % 2 ^ 32
  pub cssize : g.cssize ≡ g0.cssize % 2 ^ 32
  pub cgsize : g.cgsize ≡ g0.cgsize % 2 ^ 32
  pub ipg : g.ipg ≡ g0.ipg % 2 ^ 32
  pub fpg : g.fpg ≡ g0.fpg % 2 ^ 32
  pub maxsymlinklen : g.maxsymlinklen ≡ g0.maxsymlinklen % 2 ^ 32

cut_at : (g0 g : Geometry) (k at value : ℕ) → g.endian ≡ g0.endian → k < 21 → get_or (superblock_fields g0) k (record { at = at; value = value }) ≡ record { at = at; value = value }
    → (found : ℕ) → number_at g.endian 4 (superblock_bytes g0) at ≡ found → found ≡ value % 2 ^ 32
cut_at g0 g k at value same low e found is =
    let all = fields_alone g0 in
    sym is ∙ ap (λ (order : Endian). number_at order 4 (superblock_bytes g0) at) same ∙ all.each (record { at = at; value = value }) (field_at g0 k (record { at = at; value = value }) low e)

are_cut : (l n : ℕ) (g0 g : Geometry) → IsSuperblock (superblock_bytes g0) l n g → AreCut g0 g
unfolding fields superblock_fields
are_cut l n g0 g is =
    let all = fields_alone g0 in
    let same : g.endian ≡ g0.endian = sym is.order ∙ all.order in
    record {
      endian = same;
      sblkno = cut_at g0 g 0 8 g0.sblkno same (omega arith) refl g.sblkno (ap (λ (x : Geometry). x.sblkno) is.stands);
      cblkno = cut_at g0 g 1 12 g0.cblkno same (omega arith) refl g.cblkno (ap (λ (x : Geometry). x.cblkno) is.stands);
      iblkno = cut_at g0 g 2 16 g0.iblkno same (omega arith) refl g.iblkno (ap (λ (x : Geometry). x.iblkno) is.stands);
      dblkno = cut_at g0 g 3 20 g0.dblkno same (omega arith) refl g.dblkno (ap (λ (x : Geometry). x.dblkno) is.stands);
      cgoffset = cut_at g0 g 4 24 g0.cgoffset same (omega arith) refl g.cgoffset (ap (λ (x : Geometry). x.cgoffset) is.stands);
      cgmask = cut_at g0 g 5 28 g0.cgmask same (omega arith) refl g.cgmask (ap (λ (x : Geometry). x.cgmask) is.stands);
      size = cut_at g0 g 6 36 g0.size same (omega arith) refl g.size (ap (λ (x : Geometry). x.size) is.stands);
      ncg = cut_at g0 g 7 44 g0.ncg same (omega arith) refl g.ncg (ap (λ (x : Geometry). x.ncg) is.stands);
      bsize = cut_at g0 g 8 48 g0.bsize same (omega arith) refl g.bsize (ap (λ (x : Geometry). x.bsize) is.stands);
      fsize = cut_at g0 g 9 52 g0.fsize same (omega arith) refl g.fsize (ap (λ (x : Geometry). x.fsize) is.stands);
      frag = cut_at g0 g 10 56 g0.frag same (omega arith) refl g.frag (ap (λ (x : Geometry). x.frag) is.stands);
      nindir = cut_at g0 g 11 116 g0.nindir same (omega arith) refl g.nindir (ap (λ (x : Geometry). x.nindir) is.stands);
      inopb = cut_at g0 g 12 120 g0.inopb same (omega arith) refl g.inopb (ap (λ (x : Geometry). x.inopb) is.stands);
      csaddr = cut_at g0 g 13 152 g0.csaddr same (omega arith) refl g.csaddr (ap (λ (x : Geometry). x.csaddr) is.stands);
      cssize = cut_at g0 g 14 156 g0.cssize same (omega arith) refl g.cssize (ap (λ (x : Geometry). x.cssize) is.stands);
      cgsize = cut_at g0 g 15 160 g0.cgsize same (omega arith) refl g.cgsize (ap (λ (x : Geometry). x.cgsize) is.stands);
      ipg = cut_at g0 g 16 184 g0.ipg same (omega arith) refl g.ipg (ap (λ (x : Geometry). x.ipg) is.stands);
      fpg = cut_at g0 g 17 188 g0.fpg same (omega arith) refl g.fpg (ap (λ (x : Geometry). x.fpg) is.stands);
      maxsymlinklen = cut_at g0 g 18 1320 g0.maxsymlinklen same (omega arith) refl g.maxsymlinklen (ap (λ (x : Geometry). x.maxsymlinklen) is.stands);
    }

fit_cut : (g0 g : Geometry) → AreCut g0 g → NumbersFit g
fit_cut g0 g cut = record {
  sblkno = rw cut.sblkno (mod_below g0.sblkno (2 ^ 32) (omega arith));
  cblkno = rw cut.cblkno (mod_below g0.cblkno (2 ^ 32) (omega arith));
  iblkno = rw cut.iblkno (mod_below g0.iblkno (2 ^ 32) (omega arith));
  dblkno = rw cut.dblkno (mod_below g0.dblkno (2 ^ 32) (omega arith));
  cgoffset = rw cut.cgoffset (mod_below g0.cgoffset (2 ^ 32) (omega arith));
  cgmask = rw cut.cgmask (mod_below g0.cgmask (2 ^ 32) (omega arith));
  size = rw cut.size (mod_below g0.size (2 ^ 32) (omega arith));
  ncg = rw cut.ncg (mod_below g0.ncg (2 ^ 32) (omega arith));
  bsize = rw cut.bsize (mod_below g0.bsize (2 ^ 32) (omega arith));
  fsize = rw cut.fsize (mod_below g0.fsize (2 ^ 32) (omega arith));
  frag = rw cut.frag (mod_below g0.frag (2 ^ 32) (omega arith));
  nindir = rw cut.nindir (mod_below g0.nindir (2 ^ 32) (omega arith));
  inopb = rw cut.inopb (mod_below g0.inopb (2 ^ 32) (omega arith));
  csaddr = rw cut.csaddr (mod_below g0.csaddr (2 ^ 32) (omega arith));
  cssize = rw cut.cssize (mod_below g0.cssize (2 ^ 32) (omega arith));
  cgsize = rw cut.cgsize (mod_below g0.cgsize (2 ^ 32) (omega arith));
  ipg = rw cut.ipg (mod_below g0.ipg (2 ^ 32) (omega arith));
  fpg = rw cut.fpg (mod_below g0.fpg (2 ^ 32) (omega arith));
  maxsymlinklen = rw cut.maxsymlinklen (mod_below g0.maxsymlinklen (2 ^ 32) (omega arith));
}

-- What is known of the geometry of a volume that is built.
pub record IsGeometryOf (spec : Spec) (g : Geometry) : Type 0 where
  pub tests : IsGeometry g
  pub on : IsGeometryOn spec.l (spec.ncg * spec.fpg) g
  pub numbers : NumbersFit g
  pub endian : g.endian ≡ spec.endian
  pub fsize : g.fsize ≡ spec.l
  pub frag : g.frag ≡ spec.frag
  pub ncg : g.ncg ≡ spec.ncg
  pub ipg : g.ipg ≡ spec.ipg
  pub fpg : g.fpg ≡ spec.fpg
  pub size : g.size ≡ spec.ncg * spec.fpg
  pub group : g.iblkno ≡ g.cblkno + g.frag
  pub links : g.maxsymlinklen ≡ 60
  pub cgsize : g.cgsize ≡ g.bsize
  pub maps : freeoff_of g.ipg + map_length g.fpg ≤ g.bsize

if_some : (b : Bool) (o : Option Geometry) (g : Geometry) → (if b then o else None) ≡ Some g → (b ≡ true) × (o ≡ Some g)
if_some true o g e = (refl, e)
if_some false o g e = absurd (cc e)

fits_some : (b : Bool) (found : Result Geometry BadSuper) (g : Geometry) → if_fits b found ≡ Some g → (b ≡ true) × (found ≡ Ok g)
fits_some true (Ok x) g e = (refl, ap Ok (same_Some x g e))
fits_some false (Ok x) g e = absurd (cc e)
fits_some b (Err bad) g e = absurd (cc e)

-- what the tests of a spec say
record SpecFits (spec : Spec) : Type 0 where
  least : 4096 ≤ spec.frag * spec.l
  most : spec.frag * spec.l ≤ 65536
  own : dblkno_of spec < 2 ^ 32
  size : spec.ncg * spec.fpg < 2 ^ 32
  groups : 16 * spec.ncg < 2 ^ 32

spec_fits : (spec : Spec) → has_numbers spec ≡ true → SpecFits spec
unfolding has_numbers
spec_fits spec h =
    let a = and_parts (nat_le 4096 (spec.frag * spec.l)) _ h in
    let b = and_parts (nat_le (spec.frag * spec.l) 65536) _ (a.1) in
    let c = and_parts (nat_lt (dblkno_of spec) (2 ^ 32)) _ (b.1) in
    let d = and_parts (nat_lt (spec.ncg * spec.fpg) (2 ^ 32)) _ (c.1) in
    record {
      least = leb-true 4096 (spec.frag * spec.l) (a.0);
      most = leb-true (spec.frag * spec.l) 65536 (b.0);
      own = ltb-true (dblkno_of spec) (2 ^ 32) (c.0);
      size = ltb-true (spec.ncg * spec.fpg) (2 ^ 32) (d.0);
      groups = ltb-true (16 * spec.ncg) (2 ^ 32) (d.1);
    }

maps_small : (ipg fpg bytes : ℕ) → freeoff_of ipg + map_length fpg ≤ bytes → bytes ≤ 65536 → (ipg < 2 ^ 32) × (fpg < 2 ^ 32)
maps_small ipg fpg bytes fits small =
    let a = div_ceil_times ipg 8 (omega arith) in
    let b = div_ceil_times fpg 8 (omega arith) in
    let c = div_ceil_times (256 + div_ceil ipg 8) 4 (omega arith) in
    let a0 = a.0 in let b0 = b.0 in let c0 = c.0 in
    (omega arith, omega arith)

geometry_by_cut : (spec : Spec) (g : Geometry) → SpecFits spec → freeoff_of spec.ipg + map_length spec.fpg ≤ spec.frag * spec.l
    → IsGeometryOn spec.l (spec.ncg * spec.fpg) g → AreCut (geometry_of_spec spec) g → IsGeometryOf spec g
unfolding geometry_of_spec
geometry_by_cut spec g fit maps on cut =
    let tests = on.tests in
    let large : 512 ≤ spec.l = rw (← on.fsize) (let h = tests.fsize in h.0) in
    let most = fit.most in
    let frag_most : spec.frag * 1 ≤ spec.frag * spec.l = mul-le spec.frag 1 spec.frag spec.l (let r : spec.frag ≤ spec.frag = omega arith in r) (omega arith) in
    let small = maps_small spec.ipg spec.fpg (spec.frag * spec.l) maps most in
    let own = fit.own in
    let groups = fit.groups in
    let frag : g.frag ≡ spec.frag = cut.frag ∙ mod-eq_of_lt (omega arith) in
    let ipg : g.ipg ≡ spec.ipg = cut.ipg ∙ mod-eq_of_lt (small.0) in
    let fpg : g.fpg ≡ spec.fpg = cut.fpg ∙ mod-eq_of_lt (small.1) in
    let bsize : g.bsize ≡ spec.frag * spec.l = cut.bsize ∙ mod-eq_of_lt (omega arith) in
    let cgsize : g.cgsize ≡ spec.frag * spec.l = cut.cgsize ∙ mod-eq_of_lt (omega arith) in
    let iblkno : g.iblkno ≡ iblkno_of spec = cut.iblkno ∙ mod-eq_of_lt (omega arith) in
    let cblkno : g.cblkno ≡ cblkno_of spec = cut.cblkno ∙ mod-eq_of_lt (omega arith) in
    record {
      tests = tests;
      on = on;
      numbers = fit_cut (geometry_of_spec spec) g cut;
      endian = cut.endian;
      fsize = on.fsize;
      frag = frag;
      ncg = cut.ncg ∙ mod-eq_of_lt (omega arith);
      ipg = ipg;
      fpg = fpg;
      size = cut.size ∙ mod-eq_of_lt fit.size;
      group = rw (iblkno, cblkno, frag) refl;
      links = cut.maxsymlinklen;
      cgsize = cgsize ∙ sym bsize;
      maps = rw (ipg, fpg, bsize) maps;
    }

on_spec : (spec : Spec) (g : Geometry) → IsGeometryOn (geometry_of_spec spec).fsize (geometry_of_spec spec).size g → IsGeometryOn spec.l (spec.ncg * spec.fpg) g
unfolding geometry_of_spec
on_spec spec g is = is

-- What is known of the geometry of a volume that is built, where there is one.
pub geometry_of_built : (spec : Spec) (g : Geometry) → volume_of_spec spec ≡ Some g → IsGeometryOf spec g
unfolding volume_of_spec maps_fit read_geometry
geometry_of_built spec g e =
    let numbers = if_some (has_numbers spec) (if_fits (maps_fit spec) (read_geometry (geometry_of_spec spec))) g e in
    let fits = fits_some (maps_fit spec) (read_geometry (geometry_of_spec spec)) g (numbers.1) in
    let is = accepted_is (superblock_bytes (geometry_of_spec spec)) (geometry_of_spec spec).fsize (geometry_of_spec spec).size g (fits.1) in
    geometry_by_cut spec g (spec_fits spec (numbers.0)) (leb-true (freeoff_of spec.ipg + map_length spec.fpg) (spec.frag * spec.l) (fits.0)) (on_spec spec g is.geometry)
    (are_cut (geometry_of_spec spec).fsize (geometry_of_spec spec).size (geometry_of_spec spec) g is)
