-- The moves of a call are legal in the ordered position, and a game that is searched is not too long.
use Rattle.std.proofs.Common.{◌≡◌, ℕ, ℤ, ◌≤◌, ◌⊎◌, inl, inr, Bool, true, false, cond, ◌&&◌, leb, List, [], ◌∷◌, length, Option, Some, None, IfSome, refl, sym, ap, subst, ◌∙◌, arith}
use Rattle.std.proofs.lemmas.Bool.Decides.{nat_tests}
use Rattle.chess_board.specs.declared.board.Move.{Move}
use Rattle.chess_board.specs.Position.{Position}
use Rattle.chess_board.specs.Place.{legal}
use Rattle.chess_board.specs.Spelling.{move_spelled_by}
use Rattle.chess_board.specs.Text.{IsOfficer}
use Rattle.chess_board.proofs.Legal.{legal-law}
use Rattle.chess_board.proofs.Texts.{legal-written}
use Rattle.chess_board.proofs.LegalMoves.{legal_is}
use Rattle.game_record.specs.Game.{Game, current_position}
use Rattle.driver_state_machine.specs.declared.words.ToIface.{ToIface}
use Rattle.driver_state_machine.specs.declared.words.ToIface.TheVariants as ups
use Rattle.driver_state_machine.specs.declared.driver_state.Reach.{Reach}
use Rattle.driver_state_machine.specs.declared.driver_state.Reach.TheVariants as reaches
use Rattle.driver_state_machine.specs.declared.driver_state.DriverCall.{DriverCall}
use Rattle.driver_state_machine.specs.declared.driver_state.DriverCall.TheVariants as calls
use Rattle.driver_state_machine.specs.declared.order_words.OrderWord.{OrderWord}
use Rattle.driver_state_machine.specs.declared.order_words.OrderWord.TheVariants as orders
use Rattle.driver_state_machine.specs.Says.{EngineMessageSeen, Move as SaysMove, Over, Pong, Report, Feature}
use Rattle.driver_state_machine.specs.Says as says
use Rattle.driver_state_machine.specs.Moves.{if_legal, coordinates, WritesEngineMove, Names, NamesNone, EngineMoveIs, IsThought, IsFirstMove}
use Rattle.cecp_driver.specs.declared.driver.DriverParts.{DriverParts}
use Rattle.cecp_driver.specs.declared.sent_game.TheConstants.{MOST_PLIES}
use Rattle.cecp_driver.specs.Actions.{CanSay}
use Rattle.cecp_driver.specs.Driver.{is_usable, reach_of, GoIsAsked, EngineLineIsHeard, thought_call}
use Rattle.cecp_driver.proofs.Good.{SaysLegal, CallFits, FirstFits}

pub officer : (p : Position) (m : Move) → legal p m ≡ true → IsOfficer m.promotion
officer p m e = legal-written p m ((legal-law p m.from.index m.to.index m.promotion).0 e)

pub can_say : (g : Game) (up : ToIface) → SaysLegal g up → CanSay up
can_say g ups.Nothing h = tt
can_say g ups.Ready h = tt
can_say g (ups.Best None) h = tt
can_say g (ups.Best (Some m)) h = officer (current_position g) m h
can_say g (ups.Info thought) h = officer (current_position g) thought.best h

-- THE MOVES

abbrev AllLegal : Position → Option Move → Type 0
AllLegal p shown = IfSome shown (λ m. legal p m ≡ true)

if_step : (p : Position) (m : Move) (b : Bool) → legal p m ≡ b → AllLegal p (cond b (Some m) None)
if_step p m true e = e
if_step p m false e = tt

if_legal_is : (p : Position) (m : Option Move) → AllLegal p (if_legal p m)
if_legal_is p None = tt
if_legal_is p (Some m) = if_step p m (legal p m) refl

written_legal : (p : Position) (text : List ℕ) (m : Move) → WritesEngineMove p text m → legal p m ≡ true
written_legal p text m (inl alone) = legal_is p m alone.0.0
written_legal p text m (inr long) = legal_is p m long.1.0.0

named_legal : (p : Position) (text : List ℕ) (m : Move) → Names p text m → legal p m ≡ true
named_legal p text m (inl e) = subst (AllLegal p) e (if_legal_is p (move_spelled_by text))
named_legal p text m (inr both) = written_legal p text m both.1

shown_legal : (p : Position) (text : List ℕ) (shown : Option Move) → EngineMoveIs p text shown → AllLegal p shown
shown_legal p text None h = tt
shown_legal p text (Some m) h = named_legal p text m h

thought_legal : (p : Position) (ts : List (List ℕ)) (best : Option Move) → IsThought p ts best → AllLegal p best
thought_legal p [] best h = subst (AllLegal p) (sym h) tt
thought_legal p (t ∷ ts) best (inl found) = subst (AllLegal p) (sym found.1.1) (named_legal p t found.0 found.1.0)
thought_legal p (t ∷ ts) best (inr later) = thought_legal p ts best later.1

first_legal : (g : Game) (first : Option Move) → IsFirstMove (current_position g) first → FirstFits g first
first_legal g None h = h
first_legal g (Some m) h = legal_is (current_position g) m h.0

-- THE REACH

pub left_true : (a b : Bool) → a && b ≡ true → a ≡ true
left_true true b e = refl
left_true false b e = absurd (cc)

pub right_true : (a b : Bool) → a && b ≡ true → b ≡ true
right_true true b e = e
right_true false b e = absurd (cc)

usable_short : (v : DriverParts) → is_usable v ≡ true → length v.game.moves ≤ MOST_PLIES
usable_short v e =
    let short : leb (length v.game.moves) MOST_PLIES ≡ true = right_true v.is_ordered (leb (length v.game.moves) MOST_PLIES) (left_true (v.is_ordered && leb (length v.game.moves) MOST_PLIES) (v.has.ping && v.has.setboard) e) in
    grind (arith, nat_tests)

reach_by : (usable : Bool) (reach : Reach) (v : DriverParts) → is_usable v ≡ usable → (cond usable reach reaches.Nothing ≡ reaches.Nothing) ⊎ (length v.game.moves ≤ MOST_PLIES)
reach_by true reach v e = inr (usable_short v e)
reach_by false reach v e = inl refl

reach_fits : (v : DriverParts) (reach : Reach) → reach ≡ reach_of v → (reach ≡ reaches.Nothing) ⊎ (length v.game.moves ≤ MOST_PLIES)
reach_fits v reach e = subst (λ (r : Reach). (r ≡ reaches.Nothing) ⊎ (length v.game.moves ≤ MOST_PLIES)) (sym e) (reach_by (is_usable v) (cond v.has.analyze reaches.Analyse reaches.Play) v refl)

-- CALLS

pub asked_fits : (v : DriverParts) (line : List ℕ) (o : OrderWord) (c : DriverCall) → GoIsAsked v line o c → CallFits v.game c
asked_fits v line orders.Go c e = subst (CallFits v.game) (sym e.1.1) (first_legal v.game e.0.first e.1.0.first, reach_fits v e.0.reach e.1.0.reach)
asked_fits v line o c e = subst (CallFits v.game) (sym e) tt

thought_fits : (g : Game) (depth : ℕ) (score : ℤ) (time nodes : ℕ) (best : Option Move) → AllLegal (current_position g) best → CallFits g (thought_call depth score time nodes best)
thought_fits g depth score time nodes None h = tt
thought_fits g depth score time nodes (Some m) h = h

pub heard_fits : (v : DriverParts) (said : EngineMessageSeen) (c : DriverCall) → EngineLineIsHeard v said c → CallFits v.game c
heard_fits v (SaysMove text) c e = subst (CallFits v.game) (sym e.1.1) (shown_legal (current_position v.game) text e.0 e.1.0)
heard_fits v Over c e = subst (CallFits v.game) (sym e) tt
heard_fits v (Pong n) c e = subst (CallFits v.game) (sym e) tt
heard_fits v (Report depth score time nodes moves) c e = subst (CallFits v.game) (sym e.1.1) (thought_fits v.game depth score time nodes e.0 (thought_legal (current_position v.game) moves e.0 e.1.0))
heard_fits v (Feature text) c e = subst (CallFits v.game) (sym e) tt
heard_fits v says.Other c e = subst (CallFits v.game) (sym e) tt
