-- The order that a line is, in both directions.
use Rattle.std.proofs.Common.{◌≡◌, ℕ, List, ◌++◌, Bool, true, false, not, ◌&&◌, cond, Option, Some, None, Result, is_some, codes, refl, sym, ap, ◌∙◌, append_assoc, subst}
use Rattle.std.proofs.lemmas.List.{append-nil}
use Rattle.std.specs.Option.{option_map, ok_or}
use Rattle.std.specs.Result.{IfOk, IsOkAnd}
use Rattle.std.specs.Str.{bytes_eq}
use Rattle.std.proofs.lemmas.Bool.{not-true, and_parts}
use Rattle.uci_lines.specs.Orders.{uci_order_of, Order, Uci, IsReady, NewGame, Stop, PonderHit, Quit, SetOption, Position, Go, uci_order_text, optional_text, optional_number, order_start_text, order_moves_text, ponder_text, control_text}
use Rattle.uci_lines.specs.declared.orders.Order.{Order as CodeOrder}
use Rattle.uci_lines.specs.declared.order_read.BadOrder.{BadOrder}
use Rattle.uci_lines.specs.Behind.{after}
use Rattle.uci_lines.specs.Written.{is_trimmed_text, option_value_cut, holds_value}
use Rattle.uci_lines.specs.OrderReading.{is_writable_setting, is_writable_start, is_played, is_writable_order, order_where, setting_by, setting_order_in, position_in, search_or_none, position_or, setting_or, long_order, order_in, SpellsOrder}
use Rattle.uci_lines.proofs.Stripped.{word_after}
use Rattle.uci_lines.proofs.Counts.{same_text}
use Rattle.uci_lines.proofs.Settings.{value_cut_is, value_cut_again, none_of}
use Rattle.uci_lines.proofs.Positions.{position_takes, position_again}
use Rattle.uci_lines.proofs.Searches.{true_where, search_takes, search_again}

setting_takes : (line text : List ℕ) (o : Option (List ℕ × List ℕ)) (c : Order) → line ≡ codes "setoption name " ++ text → option_value_cut text ≡ o → setting_by o text ≡ Some c → SpellsOrder line c
unfolding uci_order_text
setting_takes line text None c e f h =
    let both = true_where (is_trimmed_text text) (SetOption text None) c h in
    let held : holds_value text ≡ false = ap (λ (o : Option (List ℕ × List ℕ)). is_some o) f in
    subst (λ (k : Order). SpellsOrder line k) both.1 (record {
      fits = rw (both.0, held) refl;
      text = e ∙ sym (append-nil (codes "setoption name " ++ text));
    })
setting_takes line text (Some halves) c e f h =
    let both = true_where (is_trimmed_text halves.0 && is_trimmed_text halves.1) (SetOption halves.0 (Some halves.1)) c h in
    let cut = value_cut_is text halves f in
    subst (λ (k : Order). SpellsOrder line k) both.1 (record {
      fits = rw (both.0, cut.first) refl;
      text = e ∙ ap (λ t. codes "setoption name " ++ t) cut.whole ∙ sym (append_assoc (codes "setoption name ") halves.0 (codes " value " ++ halves.1));
    })

position_spells : (line text : List ℕ) (c : Order) → line ≡ codes "position " ++ text → position_in text ≡ Some c → SpellsOrder line c
unfolding uci_order_text
position_spells line text c e h =
    let p = position_takes text c h in
    subst (λ (k : Order). SpellsOrder line k) (sym p.2) (record {
      fits = rw (p.3, p.4) refl;
      text = e ∙ ap (λ t. codes "position " ++ t) p.5 ∙ sym (append_assoc (codes "position ") (order_start_text p.0) (order_moves_text p.1));
    })

search_spells : (line : List ℕ) (o : Option (List ℕ)) (c : Order) → after (codes "go") line ≡ o → search_or_none o ≡ Some c → SpellsOrder line c
unfolding uci_order_text
search_spells line None c e h = absurd (cc)
search_spells line (Some text) c e h =
    let p = search_takes text c h in
    subst (λ (k : Order). SpellsOrder line k) (sym p.3) (record {
      fits = p.4;
      text = word_after (codes "go") line text e ∙ ap (λ t. codes "go" ++ t) p.5 ∙ regrouped (ponder_text p.0) (control_text p.1) (optional_number (codes " depth ") p.2);
    })
  where
    regrouped : (a b d : List ℕ) → codes "go" ++ (a ++ (b ++ d)) ≡ codes "go" ++ a ++ b ++ d
    regrouped a b d = simp append_assoc

position_or_spells : (line : List ℕ) (o : Option (List ℕ)) (c : Order) → after (codes "position ") line ≡ o → position_or o line ≡ Some c → SpellsOrder line c
position_or_spells line None c e h = search_spells line (after (codes "go") line) c refl h
position_or_spells line (Some text) c e h = position_spells line text c (word_after (codes "position ") line text e) h

setting_or_spells : (line : List ℕ) (o : Option (List ℕ)) (c : Order) → after (codes "setoption name ") line ≡ o → setting_or o line ≡ Some c → SpellsOrder line c
setting_or_spells line None c e h = position_or_spells line (after (codes "position ") line) c refl h
setting_or_spells line (Some text) c e h = setting_takes line text (option_value_cut text) c (word_after (codes "setoption name ") line text e) refl h

-- an order of one word, or what is read otherwise
word_or : (t : Bool) (line word : List ℕ) (order c : Order) (other : Option Order) → bytes_eq line word ≡ t → is_writable_order order ≡ true → word ≡ uci_order_text order → (other ≡ Some c → SpellsOrder line c) → cond t (Some order) other ≡ Some c → SpellsOrder line c
word_or true line word order c other e f w k h =
    let same : order ≡ c = cc in
    subst (λ (o : Order). SpellsOrder line o) same (record { fits = f; text = same_text line word e ∙ w })
word_or false line word order c other e f w k h = k h

pub order_takes : (line : List ℕ) (c : Order) → order_in line ≡ Some c → SpellsOrder line c
unfolding order_in uci_order_text
order_takes line c h =
    word_or (bytes_eq line (codes "uci")) line (codes "uci") Uci c _ refl refl refl
    (word_or (bytes_eq line (codes "isready")) line (codes "isready") IsReady c _ refl refl refl
    (word_or (bytes_eq line (codes "ucinewgame")) line (codes "ucinewgame") NewGame c _ refl refl refl
    (word_or (bytes_eq line (codes "stop")) line (codes "stop") Stop c _ refl refl refl
    (word_or (bytes_eq line (codes "ponderhit")) line (codes "ponderhit") PonderHit c _ refl refl refl
    (word_or (bytes_eq line (codes "quit")) line (codes "quit") Quit c _ refl refl refl
    (setting_or_spells line (after (codes "setoption name ") line) c refl)))))) h

-- The other way round: the text of an order that may be written is read as it.
setting_again : (name : List ℕ) (value : Option (List ℕ)) → is_writable_setting name value ≡ true → setting_order_in (name ++ optional_text (codes " value ") value) ≡ Some (SetOption name value)
setting_again name None h =
    let both = and_parts (is_trimmed_text name) (not (holds_value name)) h in
    let none : option_value_cut name ≡ None = none_of (option_value_cut name) (not-true (holds_value name) both.1) in
    ap setting_order_in (append-nil name) ∙ ap (λ o. setting_by o name) none ∙ ap (λ t. order_where t (SetOption name None)) both.0
setting_again name (Some value) h =
    let both = and_parts (is_trimmed_text name && is_trimmed_text value) (not (holds_value (name ++ codes " value"))) h in
    let cut = value_cut_again name value (not-true (holds_value (name ++ codes " value")) both.1) in
    ap (λ o. setting_by o (name ++ (codes " value " ++ value))) cut ∙ ap (λ t. order_where t (SetOption name (Some value))) both.0

pub order_again : (c : Order) → is_writable_order c ≡ true → order_in (uci_order_text c) ≡ Some c
unfolding order_in uci_order_text
order_again (SetOption name value) h =
    ap long_order (append_assoc (codes "setoption name ") name (optional_text (codes " value ") value)) ∙ setting_again name value h
order_again (Position fen moves) h =
    let both = and_parts (is_writable_start fen) (is_played moves) h in
    ap long_order (append_assoc (codes "position ") (order_start_text fen) (order_moves_text moves)) ∙ position_again fen moves both.0 both.1
order_again (Go ponder control depth) h =
    ap long_order (regrouped (ponder_text ponder) (control_text control) (optional_number (codes " depth ") depth)) ∙ search_again ponder control depth h
  where
    regrouped : (a b d : List ℕ) → codes "go" ++ a ++ b ++ d ≡ codes "go" ++ (a ++ (b ++ d))
    regrouped a b d = simp append_assoc
order_again c h = refl

-- the same, as the call that reads an order knows it
found_by : (line : List ℕ) (r : Option CodeOrder) (fault : BadOrder) → option_map uci_order_of r ≡ order_in line → IfOk (ok_or r fault) (λ o. SpellsOrder line (uci_order_of o))
found_by line None fault e = tt
found_by line (Some order) fault e = order_takes line (uci_order_of order) (sym e)

pub found : (line : List ℕ) (r : Option CodeOrder) (fault : BadOrder) (result : Result CodeOrder BadOrder) → option_map uci_order_of r ≡ order_in line → result ≡ ok_or r fault → IfOk result (λ o. SpellsOrder line (uci_order_of o))
found line r fault result e f = subst (λ (x : Result CodeOrder BadOrder). IfOk x (λ o. SpellsOrder line (uci_order_of o))) (sym f) (found_by line r fault e)

some_order : (c : Order) (r : Option CodeOrder) (fault : BadOrder) → option_map uci_order_of r ≡ Some c → IsOkAnd (ok_or r fault) (λ o. uci_order_of o ≡ c)
some_order c None fault e = absurd (cc)
some_order c (Some order) fault e = let same : uci_order_of order ≡ c = cc in same

pub only : (line : List ℕ) (r : Option CodeOrder) (fault : BadOrder) (result : Result CodeOrder BadOrder) → option_map uci_order_of r ≡ order_in line → result ≡ ok_or r fault → (c : Order) → SpellsOrder line c → IsOkAnd result (λ o. uci_order_of o ≡ c)
only line r fault result e f c s =
    let read : option_map uci_order_of r ≡ Some c = e ∙ ap order_in s.text ∙ order_again c s.fits in
    subst (λ (x : Result CodeOrder BadOrder). IsOkAnd x (λ o. uci_order_of o ≡ c)) (sym f) (some_order c r fault read)
