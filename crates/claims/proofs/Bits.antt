-- Accessed and dirty bits over memory are the machine's: what lacks one, what is owed, and what own bit writes leave.
-- Assumes nothing.
use mathlib.Core.Path.{◌≡◌, ap, ap₂, ◌∙◌}
use Prim.Native.Nat.{ℕ, ◌^◌, ◌<◌}
use mathlib.Core.Bool.{Bool}
use mathlib.Core.List.{List}
use Rattle.spec.specs.declared.Fault.{Fault}
use Rattle.spec.specs.Config.{Config, frame_bits}
use Rattle.spec.specs.Entry.{page_of}
use Rattle.spec.specs.Prefix.{All}
use Rattle.spec.specs.Walk.{Walk, World, Trace, granted, trace}
use Rattle.spec.specs.Plain.{Place}
use Rattle.spec.specs.Machine.{Machine, world}
use Rattle.spec.specs.Bits.{lacks, owed}
use Rattle.spec.specs.Call.{address_indexes, plain}
use Rattle.spec_laws.proofs.Lists.{all_map}
use Rattle.spec_laws.proofs.Local.{SameMapping, SameWord}
use Rattle.spec_laws.proofs.Asks.{Guest, walk_asks}
use Rattle.spec_laws.proofs.Indexes.{indexes_all}
use Rattle.spec_laws.proofs.SetBits.{lacks_on, owed_on}
use Rattle.walk.specs.Memory.{memory_world, walked_of}
use Rattle.walk.proofs.Stands.{Stands, plain_walked, same_host, same_word, asked, stands_trace, root_walked}
use Rattle.accessed.specs.Entries.{bits_in}
use Rattle.translate.specs.Translate.{whole, owing_by, checked_by, checked_of}
use Rattle.request.specs.Access.{set_by, bits_of}
use Rattle.spec_laws.proofs.Keeps.{InGuestArea, area_real, PlaceIn}
use Rattle.spec_laws.proofs.Parts.{lower}

module _ (c : Config) (mach : Machine) (ht : ℕ) (m : List ℕ) (st : Stands c mach ht m) where
  abbrev w : World
  w = world c mach

  abbrev v : World
  v = memory_world c ht m

  -- what memory answers to a walk of guest tables is what the machine answers
  module _ (p : Walk Fault Place) (R : Place → Type 0) (a : Guest c (InGuestArea c) (area_real c) p R) where
    pub walk_words_lem : All (SameWord w v) (trace w p).reads
    unfolding world memory_world
    walk_words_lem = all_map (λ x. InGuestArea c x.0 × (x.1 < 512)) (SameWord w v) (trace w p).reads (λ x b. same_word c mach ht m st x.0 x.1 b.0) (asked c mach ht m st p R a).reads

    walk_hosts : All (SameMapping w v) (trace w p).uses
    walk_hosts = all_map (λ g. g < 2 ^ frame_bits c) (SameMapping w v) (trace w p).uses (λ g b. (same_host c mach ht m st g b).0) (asked c mach ht m st p R a).uses

    pub walk_lacks : (b : Bool) → lacks v b (trace v p).reads ≡ lacks w b (trace w p).reads
    walk_lacks b =
        ap (λ (t : Trace Fault Place). lacks v b t.reads) (stands_trace c mach ht m st p R a) ∙ lacks_on w v b (trace w p).reads walk_words_lem

    pub walk_owed : (b : Bool) (n : ℕ) → owed v b n (trace v p).reads (trace v p).uses ≡ owed w b n (trace w p).reads (trace w p).uses
    walk_owed b n =
        ap (λ (t : Trace Fault Place). owed v b n t.reads t.uses) (stands_trace c mach ht m st p R a)
        ∙ owed_on w v b n (trace w p).reads (trace w p).uses walk_words_lem walk_hosts

  -- ---- the whole walk
  module _ (small : mach.root < 2 ^ frame_bits c) (b : Bool) (a : ℕ) where
    asks : Guest c (InGuestArea c) (area_real c) (whole c b mach.root a) (λ r. PlaceIn c (lower c.levels (address_indexes c a)) r.0)
    asks = walk_asks c (InGuestArea c) (area_real c) b mach.root (address_indexes c a) small (indexes_all c.levels (page_of a))

    pub whole_trace : trace v (whole c b mach.root a) ≡ plain c mach b a
    unfolding plain
    whole_trace = stands_trace c mach ht m st (whole c b mach.root a) _ asks

    pub whole_walked : walked_of c ht m 0 (whole c b mach.root a) ≡ plain_walked (plain c mach b a).result (plain c mach b a).count
    unfolding plain
    whole_walked = root_walked c mach ht m st b mach.root (address_indexes c a) small (indexes_all c.levels (page_of a))

    pub whole_owed : owed v b c.levels (trace v (whole c b mach.root a)).reads (trace v (whole c b mach.root a)).uses ≡ owed w b c.levels (plain c mach b a).reads (plain c mach b a).uses
    unfolding plain
    whole_owed = walk_owed (whole c b mach.root a) _ asks b c.levels

    -- what its bits say where it is granted
    pub whole_checked : (d : ℕ) (r : Place) → (plain c mach b a).result ≡ granted r
        → checked_of c ht m mach.root b a d ≡ owing_by d (lacks w b (plain c mach b a).reads) (owed w b c.levels (plain c mach b a).reads (plain c mach b a).uses)
    unfolding checked_of plain
    whole_checked d r e =
        ap₂ (λ l o. checked_by d l o (walked_of c ht m 0 (whole c b mach.root a))) (walk_lacks (whole c b mach.root a) _ asks b) (walk_owed (whole c b mach.root a) _ asks b c.levels)
        ∙ ap (checked_by d (lacks w b (plain c mach b a).reads) (owed w b c.levels (plain c mach b a).reads (plain c mach b a).uses)) (whole_walked ∙ ap (λ x. plain_walked x (plain c mach b a).count) e)

    -- its reads, in the guest area
    pub whole_reads : All (λ x. InGuestArea c x.0 × (x.1 < 512)) (plain c mach b a).reads
    unfolding plain
    whole_reads = (asked c mach ht m st (whole c b mach.root a) _ asks).reads

    -- and setting its bits over memory
    pub bits_are : (r : Place) → (plain c mach b a).result ≡ granted r → bits_of c ht m mach.root b a ≡ bits_in b m (plain c mach b a).reads
    unfolding bits_of
    bits_are r e =
        ap (λ x. set_by x (bits_in b m (trace v (whole c b mach.root a)).reads) m) (whole_walked ∙ ap (λ x. plain_walked x (plain c mach b a).count) e)
        ∙ ap (λ (t : Trace Fault Place). bits_in b m t.reads) whole_trace
