use Rattle.std.proofs.Common.{◌≡◌, ◌/◌, length, subst, arith}
use Rattle.std.proofs.lemmas.Result.{err_from_is_err_and}
use Rattle.sorted_map.specs.Layout.{Means, RefusedImage}
use Rattle.sorted_map.proofs.FileLaws.{bad_words, stray_bytes}
use Rattle.sorted_map.proofs.SearchLaws.{means_long}
use Rattle.sorted_map.proofs.load.load_sorted.Goals as goal

pub returns-in_err-map : goal.returns-in_err-map
returns-in_err-map c =
    let p = err_from_is_err_and c.from_residual-in_err-map.result c.from_residual-in_err-map.ensures.1 in
    rw (p.1, p.2) (bad_words c.args.bytes.now c.in_err-map.field-0.0
    (subst (λ ws. RefusedImage ws c.in_err-map.field-0.0) c.in_ok-words.ensures c.in_err-map.ensures))

pub returns-then-bytes-ne0 : goal.returns-then-bytes-ne0
returns-then-bytes-ne0 c =
    let made = c.in_ok-map.ensures in
    let many : length made.entries ≡ c.len-rows.result / 5 = omega (arith, means_long c.in_ok-words.words.items made.entries made.means, c.len-rows.ensures, c.in_ok-words.words.ok.0) in
    stray_bytes c.args.bytes.now made.entries (c.len-rows.result / 5) c.fault.result
    (subst (λ ws. Means ws made.entries) c.in_ok-words.ensures made.means) many c.fault.ensures c.if-bytes-ne0.true
