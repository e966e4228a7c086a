-- A bad file by its words, and one whose words are good but are followed by stray bytes.
use Rattle.std.proofs.Common.{◌≡◌, ℕ, ◌+◌, ◌*◌, ◌/◌, ◌%◌, List, length, sym, ap, ◌∙◌, arith}
use Rattle.frame_map.specs.declared.row.Entry.{Entry}
use Rattle.refusal.specs.declared.Refusal.{Refusal}
use Rattle.refusal.specs.declared.Refusal.TheVariants.{BadImage}
use Rattle.words.specs.Bytes.{words_of}
use Rattle.words.proofs.ByteLaws.{length-words_of}
use Rattle.sorted_map.specs.File.{RefusedFile}
use Rattle.sorted_map.specs.Layout.{Means, RefusedImage, sorted_fault}
use Rattle.sorted_map.proofs.ImageLaws.{good_long, means_good}
use Rattle.sorted_map.proofs.SearchLaws.{means_long}

pub bad_words : (bytes : List ℕ) (e : Refusal) → RefusedImage (words_of bytes) e → RefusedFile bytes e
bad_words bytes e r = record {
  row = r.row;
  tells = r.tells;
  before = r.first.before;
  follows = omega (arith, r.first.follows, length-words_of bytes);
  bad = r.first.bad;
  none = λ es m. r.none es m.means;
}

pub stray_bytes : (bytes : List ℕ) (es : List Entry) (n : ℕ) (e : Refusal) → Means (words_of bytes) es → length es ≡ n → e ≡ BadImage (sorted_fault n) → (length bytes % 4 ≡ 0 → ⊥) → RefusedFile bytes e
stray_bytes bytes es n e m len t stray =
    let long : length bytes / 4 ≡ 5 * n = sym (length-words_of bytes) ∙ means_long (words_of bytes) es m ∙ ap (λ k. 5 * k) len in
    record {
      row = n;
      tells = t;
      before = means_good (words_of bytes) es m n (omega arith);
      follows = omega arith;
      bad = λ g. omega (arith, good_long (words_of bytes) (n + 1) g, length-words_of bytes);
      none = λ es m. stray m.whole;
    }
