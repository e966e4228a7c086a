-- What each call on a heap answers, when it is refused and why, and what it leaves. h is the heap before the call and g after it.
-- Of two reasons to refuse a call the one with the lower number is told.
use Rattle.std.specs.Prelude.{◌≡◌, ℕ, ◌+◌, ◌<◌, ◌≤◌, ◌⊎◌, List, length, Some, None, Result, MatchResult, slice_index, slice_set}
use Rattle.refusal.specs.declared.Refusal.{Refusal}
use Rattle.refusal.specs.declared.Refusal.TheVariants.{OutsideLimits, NoObject, OutOfRange, BadBuffer, NotPointer, HeapFull}
use Rattle.heap_model.specs.Objects.{Space, space, Place, Pointer, refs, plain, field}
use Rattle.heap_model.specs.Making.{Made}
use Rattle.heap_model.specs.Packing.{Collected}
use Rattle.heap.specs.declared.state.Heap.{Heap}
use Rattle.heap.specs.Content.{content, room}

-- a heap has 16 to 16384 words
abbrev pub Lawful : ℕ → Type 0
Lawful n = (16 ≤ n) × (n ≤ 16384)

-- two buffers of n and i words and m flags are too short, too long or unequal
abbrev pub NewRefused : ℕ → ℕ → ℕ → Refusal → Type 0
NewRefused n i m e = ((e ≡ OutsideLimits) × (Lawful n → ⊥)) ⊎ ((e ≡ BadBuffer) × Lawful n × ((i ≡ n) × (m ≡ n) → ⊥))

-- otherwise they make an empty heap
abbrev pub NewAnswer : ℕ → ℕ → ℕ → Result Heap Refusal → Type 0
NewAnswer n i m r = MatchResult r (λ h. Lawful n × (i ≡ n) × (m ≡ n) × (room h ≡ n) × ((content h).used ≡ 0)) (λ e. NewRefused n i m e)

-- counts are at most 255
abbrev pub Countable : ℕ → ℕ → Type 0
Countable refs plain = (refs ≤ 255) × (plain ≤ 255)

-- an object cannot be made in a space with room for n words
abbrev pub MakeRefused : Space → ℕ → ℕ → ℕ → Refusal → Type 0
MakeRefused s n refs plain e = ((e ≡ OutOfRange) × (Countable refs plain → ⊥)) ⊎ ((e ≡ HeapFull) × Countable refs plain × (n < s.used + (1 + (refs + plain))))

-- otherwise the heap has one object more
abbrev pub MakeAnswer : Heap → Heap → ℕ → ℕ → Result ℕ Refusal → Type 0
MakeAnswer h g refs plain r =
    MatchResult r
    (λ p. Countable refs plain × ((content h).used + (1 + (refs + plain)) ≤ room h) × (room g ≡ room h) × Made (content h) (content g) refs plain p)
    (λ e. MakeRefused (content h) (room h) refs plain e × (g ≡ h))

-- there is no object at p, or it has no field j
abbrev pub FieldRefused : Space → ℕ → ℕ → Refusal → Type 0
FieldRefused s p j e = ((e ≡ NoObject) × (Place s p → ⊥)) ⊎ ((e ≡ OutOfRange) × Place s p × (refs s p + plain s p ≤ j))

-- the object at place p has a field j
abbrev pub Field : Space → ℕ → ℕ → Type 0
Field s p j = Place s p × (j < refs s p + plain s p)

-- then it stands at index p + j
abbrev pub FindAnswer : Heap → ℕ → ℕ → Result ℕ Refusal → Type 0
FindAnswer h p j r = MatchResult r (λ at. Field (content h) p j × (at ≡ p + j)) (λ e. FieldRefused (content h) p j e)

abbrev pub LoadAnswer : Heap → ℕ → ℕ → Result ℕ Refusal → Type 0
LoadAnswer h p j r = MatchResult r (λ v. Field (content h) p j × (v ≡ field (content h) p j)) (λ e. FieldRefused (content h) p j e)

-- or it is a pointer field and w no pointer
abbrev pub StoreRefused : Space → ℕ → ℕ → ℕ → Refusal → Type 0
StoreRefused s p j w e = FieldRefused s p j e ⊎ ((e ≡ NotPointer None) × Place s p × (j < refs s p) × (Pointer s w → ⊥))

-- otherwise that word is changed, and nothing else
abbrev pub StoreAnswer : Heap → Heap → ℕ → ℕ → ℕ → Result (Unit {0}) Refusal → Type 0
StoreAnswer h g p j w r =
    MatchResult r
    (λ _. Field (content h) p j × (j < refs (content h) p → Pointer (content h) w) × (room g ≡ room h) × (content g ≡ space (slice_set (content h).words (p + j) w) (content h).starts (content h).used))
    (λ e. StoreRefused (content h) p j w e × (g ≡ h))

-- all these root words are 0 or an object's place
abbrev pub Pointers : Space → List ℕ → Type 0
Pointers s roots = (i : ℕ) → i < length roots → Pointer s (slice_index roots i)

-- root word i is the first that is not
abbrev pub FirstBad : Space → List ℕ → ℕ → Type 0
FirstBad s roots i = (i < length roots) × (Pointer s (slice_index roots i) → ⊥) × ((k : ℕ) → k < i → Pointer s (slice_index roots k))

-- the first root word that is no pointer is told, and nothing is changed; otherwise the heap is collected and the root words become roots'
abbrev pub CollectAnswer : Heap → Heap → List ℕ → List ℕ → Result (Unit {0}) Refusal → Type 0
CollectAnswer h g roots roots' r =
    MatchResult r
    (λ _. Pointers (content h) roots × (room g ≡ room h) × ((live : List ℕ) × Collected (content h) (content g) roots roots' live))
    (λ e. ((i : ℕ) × (e ≡ NotPointer (Some i)) × FirstBad (content h) roots i) × (g ≡ h) × (roots' ≡ roots))
