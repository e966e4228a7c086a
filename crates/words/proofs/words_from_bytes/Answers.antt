use Rattle.std.proofs.Common.{rules, ◌≡◌, ℕ, ◌/◌, List, [], length, map, IfOk, subst}
use Rattle.std.specs.Simd.{first_chunks}
use Rattle.words.specs.Bytes.{word_in, words_of, spelled_at}
use Rattle.words.proofs.ByteLaws.{piece_spells}
use Rattle.words.proofs.ChunkLaws.{mapped_chunks}
use Rattle.words.proofs.words_from_bytes.Goals as goal

pub returns : goal.returns
unfolding words_of
returns c =
    let bs : List ℕ = c.args.bytes.now in
    let n : ℕ = length bs / 4 in
    let h : IfOk c.collect.result (λ v. v.items ≡ map (λ (w : List ℕ). spelled_at w 0) (first_chunks 4 n bs)) = search rules in
    subst (λ xs. IfOk c.collect.result (λ v. v.items ≡ xs)) (mapped_chunks 4 n bs (λ w. spelled_at w 0) (word_in bs) [] (λ i l. piece_spells bs n i [] l)) h
