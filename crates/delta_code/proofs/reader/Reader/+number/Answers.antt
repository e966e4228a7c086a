use Rattle.std.proofs.Common.{ℕ, ◌+◌, ◌-◌, ◌*◌, ◌^◌, ◌<◌, arith, rules}
use Rattle.delta_code.proofs.ReaderLaws.{number_small, number_fits}
use Rattle.delta_code.proofs.reader.Reader.+number.Goals as goal

-- a byte more fits as well
fits : (t : ℕ) (c : goal.After-from t) → c.in_ok-low.low + 256 * c.in_ok-high.high < 2 ^ 32
fits t c =
    let low : c.in_ok-low.low < 256 = search rules in
    number_fits c.args.bytes c.in_ok-low.low c.in_ok-high.high (omega arith) c.requires low
    (number_small (c.args.bytes - 1) c.in_ok-high.high c.byte.new.self c.number.new.self c.in_ok-high.ensures)

pub overflow_mul-result : goal.overflow_mul-result
overflow_mul-result t c = omega (arith, fits t c)

pub overflow_add-result : goal.overflow_add-result
overflow_add-result t c = omega (arith, fits t c)
