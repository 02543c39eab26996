-- Orders in the spelling of the bridge are accepted, and handed on as they came.
use Rattle.std.proofs.Common.{◌≡◌, ℕ, List, [], ◌∷◌, ◌++◌, length, codes, Bool, true, false, cond, ◌&&◌, not, Option, Some, None, refl, sym, ap, ◌∙◌, arith, append_assoc}
use Rattle.std.specs.Str.{bytes_eq}
use Rattle.std.proofs.lemmas.Bool.{and_parts}
use Rattle.protocol_tokens.specs.Tokens.{is_white, tokens, trim_left, trim_right, trimmed}
use Rattle.protocol_tokens.proofs.Lengths.{trim_left_length, trim_right_length}
use Rattle.protocol_tokens.proofs.TokenLists.{tokens_more}
use Rattle.uci_lines.specs.Written.{is_trimmed_text, holds_value}
use Rattle.uci_lines.specs.Orders as own
use Rattle.uci_lines.specs.Orders.{uci_order_text as own_text, optional_text, order_start_text, order_moves_text}
use Rattle.uci_lines.specs.OrderReading.{is_writable_setting}
use Rattle.uci_lines.specs.OrderReading as own_reading
use Rattle.uci_lines.specs.declared.orders.GoControl.TheVariants.{Infinite, MoveTime, Clock}
use Rattle.uci_lines.proofs.Counts.{same_text}
use Rattle.uci_lines.proofs.CutTokens.{tokens_byte}
use Rattle.uci_lines.proofs.Prefixes.{prefix, behind}
use Rattle.uci_lines.proofs.Spelling.{order_again}
use Rattle.uci_interface_lines.specs.Kinds.{has_token_word, kind_asked}
use Rattle.uci_interface_lines.specs.Lines.{position_line_in}
use Rattle.engine_revival.specs.Orders.{Uci, IsReady, NewGame, Stop, PonderHit, Quit, Position, Go, revival_order_text}
use Rattle.engine_revival.specs.Asked.{tokens_ask_for, revival_order_in, position_asked, setting_asked_of}
use Rattle.engine_revival.specs.Canonical.{IsTakenAsItCame, OwnOrdersAreTaken}

-- A TEXT BEGINS WITH A TOKEN

record Begins (text : List ℕ) : Type 0 where
  first : ℕ
  later : List ℕ
  is : text ≡ first ∷ later
  black : is_white first ≡ false

left_trimmed : (b : ℕ) (bs : List ℕ) (w : Bool) → is_white b ≡ w → trimmed (b ∷ bs) ≡ b ∷ bs → is_white b ≡ false
left_trimmed b bs false e t = e
left_trimmed b bs true e t =
    let left : trim_left (b ∷ bs) ≡ trim_left bs = ap (λ v. cond v (trim_left bs) (b ∷ bs)) e in
    let same : trim_right (trim_left bs) ≡ b ∷ bs = ap trim_right (sym left) ∙ t in
    let long = ap length same in
    let a = trim_right_length (trim_left bs) in
    let c = trim_left_length bs in
    absurd (omega (arith, long, a, c))

begins : (text : List ℕ) → is_trimmed_text text ≡ true → Begins text
begins [] h = absurd (cc)
begins (b ∷ bs) h =
    let same = same_text (trimmed (b ∷ bs)) (b ∷ bs) (and_parts _ (bytes_eq (trimmed (b ∷ bs)) (b ∷ bs)) h).1 in
    record { first = b; later = bs; is = refl; black = left_trimmed b bs (is_white b) refl same }

name_text : (name : List ℕ) (value : Option (List ℕ)) → is_writable_setting name value ≡ true → is_trimmed_text name ≡ true
name_text name None h = (and_parts (is_trimmed_text name) (not (holds_value name)) h).0
name_text name (Some value) h = (and_parts (is_trimmed_text name) (is_trimmed_text value) (and_parts (is_trimmed_text name && is_trimmed_text value) (not (holds_value (name ++ codes " value"))) h).0).0

-- A SETTING

setting_text : (valued : Bool) (ts : List (List ℕ)) (line : List ℕ) → revival_order_text (setting_asked_of valued ts line) ≡ line
unfolding revival_order_text
setting_text true ts line = refl
setting_text false ts line = refl

setting_taken : (line others : List ℕ) (b : ℕ) (bs : List ℕ) → line ≡ codes "setoption" ++ (32 ∷ (codes "name" ++ (32 ∷ others))) → others ≡ b ∷ bs → is_white b ≡ false → IsTakenAsItCame line
unfolding revival_order_in
setting_taken line others b bs e f w =
    let ts : tokens line ≡ codes "setoption" ∷ codes "name" ∷ (b ∷ prefix bs) ∷ tokens (behind bs) =
    ap tokens e ∙ tokens_more (codes "setoption") (codes "name" ++ (32 ∷ others)) 32 refl refl
    ∙ ap (λ more. codes "setoption" ∷ more) (tokens_more (codes "name") others 32 refl refl)
    ∙ ap (λ more. codes "setoption" ∷ codes "name" ∷ tokens more) f
    ∙ ap (λ more. codes "setoption" ∷ codes "name" ∷ more) (tokens_byte b bs w) in
    record {
      order = setting_asked_of (has_token_word (codes "value") (tokens (behind bs))) ((b ∷ prefix bs) ∷ tokens (behind bs)) line;
      accepted = ap (λ all. tokens_ask_for all line) ts;
      handed_on = setting_text (has_token_word (codes "value") (tokens (behind bs))) ((b ∷ prefix bs) ∷ tokens (behind bs)) line;
    }

-- `position` AND `go`

position_taken : (line others : List ℕ) (order : own.Order) → line ≡ codes "position" ++ (32 ∷ others) → own_reading.order_in line ≡ Some order → IsTakenAsItCame line
unfolding revival_order_in revival_order_text
position_taken line others order e o =
    record {
      order = Position line;
      accepted =
          ap (λ all. tokens_ask_for all line) (ap tokens e ∙ tokens_more (codes "position") others 32 refl refl)
          ∙ ap (λ x. position_asked x (position_line_in line) line) o;
      handed_on = refl;
    }

go_taken : (line others : List ℕ) → line ≡ codes "go" ++ (32 ∷ others) → IsTakenAsItCame line
unfolding revival_order_in revival_order_text
go_taken line others e =
    record {
      order = Go (kind_asked line) line;
      accepted = ap (λ all. tokens_ask_for all line) (ap tokens e ∙ tokens_more (codes "go") others 32 refl refl);
      handed_on = refl;
    }

-- EACH ORDER

position_parts : (start moves : List ℕ) → codes "position " ++ start ++ moves ≡ codes "position" ++ (32 ∷ (start ++ moves))
position_parts start moves = simp append_assoc

pub own_orders_are_taken : OwnOrdersAreTaken
unfolding revival_order_in revival_order_text own_text
own_orders_are_taken own.Uci h = record { order = Uci; accepted = refl; handed_on = refl }
own_orders_are_taken own.IsReady h = record { order = IsReady; accepted = refl; handed_on = refl }
own_orders_are_taken own.NewGame h = record { order = NewGame; accepted = refl; handed_on = refl }
own_orders_are_taken own.Stop h = record { order = Stop; accepted = refl; handed_on = refl }
own_orders_are_taken own.PonderHit h = record { order = PonderHit; accepted = refl; handed_on = refl }
own_orders_are_taken own.Quit h = record { order = Quit; accepted = refl; handed_on = refl }
own_orders_are_taken (own.SetOption name value) h =
    let text = begins name (name_text name value h) in
    setting_taken (own_text (own.SetOption name value)) (name ++ optional_text (codes " value ") value) text.first (text.later ++ optional_text (codes " value ") value)
    refl (ap (λ (t : List ℕ). t ++ optional_text (codes " value ") value) text.is) text.black
own_orders_are_taken (own.Position start moves) h =
    position_taken (own_text (own.Position start moves)) (order_start_text start ++ order_moves_text moves) (own.Position start moves) (position_parts (order_start_text start) (order_moves_text moves)) (order_again (own.Position start moves) h)
own_orders_are_taken (own.Go true control depth) h = go_taken (own_text (own.Go true control depth)) _ refl
own_orders_are_taken (own.Go false Infinite depth) h = go_taken (own_text (own.Go false Infinite depth)) _ refl
own_orders_are_taken (own.Go false (MoveTime time) depth) h = go_taken (own_text (own.Go false (MoveTime time) depth)) _ refl
own_orders_are_taken (own.Go false (Clock w b i j m) depth) h = go_taken (own_text (own.Go false (Clock w b i j m) depth)) _ refl
