-- The pings that an effect adds to the held ones.
use Rattle.std.proofs.Common.{◌≡◌, ℕ, ◌+◌, ◌<◌, ◌≤◌, List, [], ◌∷◌, ◌++◌, length, Bool, true, false, cond, ◌&&◌, ◌||◌, nat_le, Result, Ok, Err, refl, ap, arith, length-append}
use Rattle.std.proofs.lemmas.Bool.Decides.{nat_tests}
use mathlib.Core.Bool.{or-false}
use Rattle.chess_board.specs.Position.{Position}
use Rattle.fen_text.specs.declared.fault.FenFault.{FenFault}
use Rattle.fen_text.specs.Fen.{position_of}
use Rattle.cecp_lines.specs.Messages.{IfaceMsg}
use Rattle.cecp_lines.specs.Messages as says
use Rattle.search_epochs.specs.declared.words.Call.TheVariants as calls
use Rattle.uci_lines.specs.Orders.{Order}
use Rattle.desk_rules.specs.declared.desk.Desk.{Desk}
use Rattle.desk_rules.specs.Desk.{Situation, is_boot, is_gone, is_full, call_in, call_of_desk, call_before, owes_move}
use Rattle.desk_rules.specs.Lines.{change, desk_at_position}
use Rattle.desk_rules.specs.Steps.{Effect, Accepts, desk_after_effect}
use Rattle.desk_rules.specs.Fits.{EffectFitsDesk}
use Rattle.desk_rules.proofs.Passes.{passes}

-- an accepted ping
abbrev pub IsPing : Effect → Type 0
IsPing (Accepts (says.Ping n)) = Unit {0}
IsPing d = ⊥

position_pings : (d : Desk) (r : Result Position FenFault) → (desk_at_position d r).pings ≡ d.pings
position_pings d (Ok p) = refl
position_pings d (Err fault) = refl

quiet_line : (boot : Bool) (d : Desk) (m : IfaceMsg) → (IsPing (Accepts m) → ⊥) → (change boot d m).pings ≡ d.pings
unfolding change
quiet_line boot d (says.Ping n) f = absurd (f tt)
quiet_line boot d (says.SetBoard text) f = position_pings d (position_of text)
quiet_line boot d m f = refl

-- no other effect adds one
pub quiet_pings : (h : Situation) (d : Effect) → (IsPing d → ⊥) → (desk_after_effect h d).pings ≡ h.desk.pings
unfolding desk_after_effect
quiet_pings h (Accepts m) f = quiet_line (is_boot h.engine) h.desk m f
quiet_pings h d f = refl

-- it adds its number
pub added_ping : (h : Situation) (n : ℕ) → (desk_after_effect h (Accepts (says.Ping n))).pings ≡ h.desk.pings ++ n ∷ []
unfolding desk_after_effect change
added_ping h n = refl

line_count : (h : Situation) (m : IfaceMsg) → length (desk_after_effect h (Accepts m)).pings ≤ length h.desk.pings + 1
line_count h (says.Ping n) = omega (arith, ap length (added_ping h n), length-append h.desk.pings (n ∷ []))
line_count h m = omega (arith, ap length (quiet_pings h (Accepts m) (λ x. x)))

pub effect_pings : (h : Situation) (d : Effect) → length (desk_after_effect h d).pings ≤ length h.desk.pings + 1
effect_pings h (Accepts m) = line_count h m
effect_pings h d = omega (arith, ap length (quiet_pings h d (λ x. x)))

-- WHERE A MOVE IS OWED

few : (a b : Bool) (n : ℕ) → (a && nat_le 64 n) ≡ false → a ≡ true → n < 64
few true b n e q = grind (arith, nat_tests)
few false b n e q = cc

-- a ping is accepted while fewer than 64 are held
pub owed_ping : (h : Situation) (held : List Order) (n : ℕ) → EffectFitsDesk h held (Accepts (says.Ping n)) → owes_move h ≡ true → length (desk_after_effect h (Accepts (says.Ping n))).pings ≤ 64
owed_ping h held n f o =
    let b = few (owes_move h) true (length h.desk.pings) (passes h held (says.Ping n) f.passes).pings o in
    omega (arith, ap length (added_ping h n), length-append h.desk.pings (n ∷ []))

-- and changes no call
pub ping_call : (h : Situation) (n : ℕ) → call_of_desk h.closed (is_gone h.engine || false) (desk_after_effect h (Accepts (says.Ping n))) ≡ call_before h
unfolding desk_after_effect change call_of_desk
ping_call h n = ap (λ (b : Bool). cond (h.closed || b || is_full h.desk.game) calls.Nothing (call_in h.desk h.desk.mode)) (or-false (is_gone h.engine))
