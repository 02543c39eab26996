use Rattle.std.proofs.Common.{◌≡◌, ◌<◌, ◌+◌, ◌*◌, ◌/◌, ◌%◌, ◌^◌, ℕ, false, arith, sym, subst}
use Rattle.std.specs.Int.Bits.{bit_and}
use Rattle.std.proofs.lemmas.Nat.{and_le_r}
use Rattle.chess_board.specs.Reach.{has}
use Rattle.chess_board.proofs.Scan.{none_left, next_low, next_passed, on_file}
use Rattle.chess_board.proofs.list.next_on_file.Goals as goal

pub returns-then-rest-eq0-clause-passed : goal.returns-then-rest-eq0-clause-passed
returns-then-rest-eq0-clause-passed c k low less =
    let set = c.args.set in
    let file : ℕ = c.args.place / 8 in
    let e : k / 8 ≡ file = omega arith in
    let gone = none_left (bit_and (set / 2 ^ file) 72340172838076673) (c.args.place % 8 * 8) c.if-rest-eq0.true (k % 8 * 8) (omega arith) in
    subst (λ (f : ℕ). has set (k % 8 * 8 + f) ≡ false) (sym e) (on_file set file (k % 8) (omega arith) gone)

pub returns-clause-on : goal.returns-clause-on
returns-clause-on c =
    let column : ℕ = bit_and (c.args.set / 2 ^ (c.args.place / 8)) 72340172838076673 in
    let fits : column < 2 ^ 64 = omega (arith, and_le_r (c.args.set / 2 ^ (c.args.place / 8)) 72340172838076673) in
    let low = next_low column (c.args.place % 8 * 8) fits c.if-rest-eq0.false in
    (omega arith, omega arith)

pub returns-clause-passed : goal.returns-clause-passed
returns-clause-passed c k low less =
    let set = c.args.set in
    let file : ℕ = c.args.place / 8 in
    let column : ℕ = bit_and (set / 2 ^ file) 72340172838076673 in
    let fits : column < 2 ^ 64 = omega (arith, and_le_r (set / 2 ^ file) 72340172838076673) in
    let top = next_low column (c.args.place % 8 * 8) fits c.if-rest-eq0.false in
    let e : k / 8 ≡ file = omega arith in
    let gone = next_passed column (c.args.place % 8 * 8) fits c.if-rest-eq0.false (k % 8 * 8) (omega arith) (omega arith) in
    subst (λ (f : ℕ). has set (k % 8 * 8 + f) ≡ false) (sym e) (on_file set file (k % 8) (omega arith) gone)
