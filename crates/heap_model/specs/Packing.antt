-- A packed copy of listed objects, and the renaming that goes with it.
use Rattle.std.specs.Prelude.{◌≡◌, ℕ, ◌+◌, ◌<◌, ◌≤◌, cond, List, [], ◌∷◌, map, length, take, ◌==◌, slice_index}
use Rattle.heap_model.specs.Objects.{Space, Place, header, refs, plain, size, field}
use Rattle.heap_model.specs.Live.{Member, Listing, Reached}

-- the words that the objects at ps take in all
unfoldable pub span : Space → List ℕ → ℕ
span s [] = 0
span s (p ∷ ps) = size s p + span s ps

-- the place of the object listed k-th, when all are packed in the list's order from index 0
abbrev pub packed : Space → List ℕ → ℕ → ℕ
packed s ps k = 1 + span s (take k ps)

-- the renaming, with the places given from `at` on: a listed place goes to its packed one, any other word to 0
unfoldable pub renamed_from : Space → ℕ → List ℕ → ℕ → ℕ
renamed_from s at [] w = 0
renamed_from s at (p ∷ ps) w = cond (w == p) at (renamed_from s (at + size s p) ps w)

abbrev pub renamed : Space → List ℕ → ℕ → ℕ
renamed s ps w = renamed_from s 1 ps w

-- what a renaming f does: it leaves 0, takes each listed place to its packed one, and no two words to the same
pub record Renaming (s : Space) (ps : List ℕ) (f : ℕ → ℕ) : Type 0 where
  pub none : f 0 ≡ 0
  pub moves : (k : ℕ) → k < length ps → f (slice_index ps k) ≡ packed s ps k
  pub one_to_one : (v w : ℕ) → Member v (0 ∷ ps) → Member w (0 ∷ ps) → f v ≡ f w → v ≡ w

-- t holds the objects of s that ps lists, packed in that order, with their pointer fields renamed, and nothing else
pub record Packed (s t : Space) (ps : List ℕ) : Type 0 where
  pub used : t.used ≡ span s ps
  -- the objects of t are the packed ones
  pub placed : (k : ℕ) → k < length ps → Place t (packed s ps k)
  pub only : (w : ℕ) → Place t w → (k : ℕ) × (k < length ps) × (w ≡ packed s ps k)
  -- counts, pointer fields, plain fields
  pub counts : (k : ℕ) → k < length ps → header t (packed s ps k) ≡ header s (slice_index ps k)
  pub pointing : (k j : ℕ) → k < length ps → j < refs s (slice_index ps k) → field t (packed s ps k) j ≡ renamed s ps (field s (slice_index ps k) j)
  pub plainly : (k j : ℕ) → k < length ps → refs s (slice_index ps k) ≤ j → j < refs s (slice_index ps k) + plain s (slice_index ps k) → field t (packed s ps k) j ≡ field s (slice_index ps k) j

-- a collection of s from these roots: the live objects are listed, packed and renamed, and the roots renamed
pub record Collected (s t : Space) (roots roots' : List ℕ) (live : List ℕ) : Type 0 where
  pub listing : Listing s roots live
  pub only_list : (qs : List ℕ) → Listing s roots qs → qs ≡ live
  -- the listed places are those of the objects that the roots reach
  pub objects : (k : ℕ) → k < length live → Place s (slice_index live k)
  pub reached : (w : ℕ) → Member w live → Reached s roots w
  pub reaching : (w : ℕ) → Reached s roots w → Member w live
  pub packing : Packed s t live
  pub renaming : Renaming s live (renamed s live)
  pub rooted : roots' ≡ map (renamed s live) roots
