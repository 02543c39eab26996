-- The letters of a log's name are ASCII.
use Rattle.std.proofs.Common.{◌≡◌, ◌<◌, ◌≤◌, ℕ, Bool, true, false, ◌==◌, ◌||◌, ◌&&◌, if◌then◌else◌, [], ◌∷◌, refl, arith}
use Rattle.std.proofs.lemmas.Bool.{eqb-true, leb-true}
use Rattle.std.proofs.lemmas.Str.{encode_ascii}
use Rattle.std.specs.Char.{is_ascii_alphanumeric}
use Rattle.std.specs.Int.{is_in_range}
use Rattle.std.specs.Prelude.{encode_utf8}
use Rattle.protocol_tokens.specs.Bytes.{plus, dash, point}
use Rattle.wineravine_runner.specs.LogNames.{is_log_letter, log_letter, underscore}

either_way : (P : Type 0) (a b : Bool) → (a ≡ true → P) → (b ≡ true → P) → (a || b) ≡ true → P
either_way P true b f g h = f refl
either_way P false b f g h = g h

second : (a b : Bool) → (a && b) ≡ true → b ≡ true
second true b h = h
second false b h = let z : false ≡ true = h in cc

range_below : (lo hi b : ℕ) → hi < 128 → is_in_range lo hi b ≡ true → b < 128
range_below lo hi b small h = let e : b ≤ hi = leb-true b hi (second _ _ h) in omega (arith, e, small)

byte_below : (b n : ℕ) → n < 128 → (b == n) ≡ true → b < 128
byte_below b n small h = let e = eqb-true b n h in omega (arith, e, small)

alphanumeric_below : (b : ℕ) → is_ascii_alphanumeric b ≡ true → b < 128
alphanumeric_below b =
    either_way (b < 128) _ _
    (either_way (b < 128) _ _ (range_below 48 57 b (omega arith)) (range_below 65 90 b (omega arith)))
    (range_below 97 122 b (omega arith))

letter_below : (b : ℕ) → is_log_letter b ≡ true → b < 128
letter_below b =
    either_way (b < 128) _ _
    (either_way (b < 128) _ _
    (either_way (b < 128) _ _
    (either_way (b < 128) _ _ (alphanumeric_below b) (byte_below b point (omega arith)))
    (byte_below b dash (omega arith)))
    (byte_below b underscore (omega arith)))
    (byte_below b plus (omega arith))

chosen_below : (t : Bool) (b : ℕ) → (t ≡ true → b < 128) → (if t then b else underscore) < 128
chosen_below true b f = f refl
chosen_below false b f = omega arith

pub one_letter : (b : ℕ) → encode_utf8 (log_letter b) ≡ log_letter b ∷ []
one_letter b = encode_ascii (log_letter b) (chosen_below (is_log_letter b) b (letter_below b))
