-- The meaning of a `position` line: the function of its tokens, and the relation.
use Rattle.std.proofs.Common.{◌≡◌, ◌⊎◌, inl, inr, ℕ, List, [], ◌∷◌, ◌++◌, Bool, true, false, not, cond, Option, Some, None, codes, refl, sym, ap, ◌∙◌, subst}
use Rattle.std.specs.Prelude.{◌↔◌, Result, Ok, Err}
use Rattle.std.specs.List.{list_all}
use Rattle.chess_board.specs.declared.board.Move.{Move}
use Rattle.chess_board.specs.declared.board.Variant.{Variant}
use Rattle.chess_board.specs.Position.{Position}
use Rattle.chess_board.specs.Place.{legal}
use Rattle.chess_board.specs.Text.{SpellsMove}
use Rattle.chess_board.specs.Spelling.{move_spelled_by}
use Rattle.chess_board.proofs.Spelled.{move_spells, spells_move}
use Rattle.fen_text.specs.declared.fault.FenFault.{FenFault}
use Rattle.uci_lines.specs.Cuts.{is_word}
use Rattle.uci_lines.specs.Spells.{IsNoneOf}
use Rattle.uci_lines.proofs.Counts.{same_text}
use Rattle.uci_interface_lines.specs.Lines.{Line, position_after_spoken_move, played_if_legal, position_after_texts, is_moves_token, before_moves, behind_moves, if_right, variant_start, position_in_fields, start_if_alone, start_position_by, line_to, line_from, line_in_variant}
use Rattle.uci_interface_lines.specs.Speaks.{Leads, Starts, Speaks}
use Rattle.uci_interface_lines.proofs.Cuts.{before_at, before_none, behind_at, behind_none}
use Rattle.chess_board.proofs.LegalMoves.{is_legal, legal_is}
use Rattle.uci_interface_lines.proofs.Played.{led_none}
use Rattle.uci_interface_lines.proofs.Fields.{fields_none}

-- MOVES

leads_legal : (b : Bool) (ts : List (List ℕ)) (t : List ℕ) (p q : Position) (m : Move) → move_spelled_by t ≡ Some m → legal p m ≡ b → ((r : Position) → position_after_texts ts (Some r) ≡ Some q → Leads r ts q) → position_after_texts ts (cond b (Some (position_after_spoken_move p m)) None) ≡ Some q → Leads p (t ∷ ts) q
leads_legal true ts t p q m e l i h = Leads.Goes m (move_spells t m e) (is_legal p m l) (i (position_after_spoken_move p m) h)
leads_legal false ts t p q m e l i h = let none = led_none ts in absurd (cc)

leads_text : (o : Option Move) (ts : List (List ℕ)) (t : List ℕ) (p q : Position) → move_spelled_by t ≡ o → ((r : Position) → position_after_texts ts (Some r) ≡ Some q → Leads r ts q) → position_after_texts ts (played_if_legal p o) ≡ Some q → Leads p (t ∷ ts) q
leads_text None ts t p q e i h = let none = led_none ts in absurd (cc)
leads_text (Some m) ts t p q e i h = leads_legal (legal p m) ts t p q m e refl i h

led_leads : (ts : List (List ℕ)) (p q : Position) → position_after_texts ts (Some p) ≡ Some q → Leads p ts q
led_leads [] p q h = let same : p ≡ q = cc in subst (λ (r : Position). Leads p [] r) same Leads.Stays
led_leads (t ∷ ts) p q h = leads_text (move_spelled_by t) ts t p q refl (λ r k. led_leads ts r q k) h

leads_led : (p : Position) (ts : List (List ℕ)) (q : Position) → Leads p ts q → position_after_texts ts (Some p) ≡ Some q
leads_led p _ _ Leads.Stays = refl
leads_led p _ q (Leads.Goes {t = t} {ts = ts} m s l h) =
    ap (λ o. position_after_texts ts (played_if_legal p o)) (spells_move t m s)
    ∙ ap (λ b. position_after_texts ts (cond b (Some (position_after_spoken_move p m)) None)) (legal_is p m l)
    ∙ leads_led (position_after_spoken_move p m) ts q h

-- THE START

alone_starts : (v : Variant) (ts : List (List ℕ)) (p : Position) → start_if_alone v ts ≡ Some p → Starts v (codes "startpos" ∷ ts) p
alone_starts v [] p h = let same : variant_start v ≡ p = cc in subst (λ (r : Position). Starts v (codes "startpos" ∷ []) r) same Starts.Standard
alone_starts v (t ∷ ts) p h = absurd (cc)

right_is : (r : Result Position FenFault) (p : Position) → if_right r ≡ Some p → r ≡ Ok p
right_is (Ok q) p h = let same : q ≡ p = cc in ap Ok same
right_is (Err fault) p h = absurd (cc)

set_up_starts : (v : Variant) (b : Bool) (ts : List (List ℕ)) (t : List ℕ) (p : Position) → is_word (codes "fen") t ≡ b → cond b (if_right (position_in_fields v ts)) None ≡ Some p → Starts v (t ∷ ts) p
set_up_starts v true ts t p e h = subst (λ (w : List ℕ). Starts v (w ∷ ts) p) (sym (same_text t (codes "fen") e)) (Starts.SetUp (right_is (position_in_fields v ts) p h))
set_up_starts v false ts t p e h = absurd (cc)

word_starts : (v : Variant) (b : Bool) (ts : List (List ℕ)) (t : List ℕ) (p : Position) → is_word (codes "startpos") t ≡ b
    → cond b (start_if_alone v ts) (cond (is_word (codes "fen") t) (if_right (position_in_fields v ts)) None) ≡ Some p → Starts v (t ∷ ts) p
word_starts v true ts t p e h = subst (λ (w : List ℕ). Starts v (w ∷ ts) p) (sym (same_text t (codes "startpos") e)) (alone_starts v ts p h)
word_starts v false ts t p e h = set_up_starts v (is_word (codes "fen") t) ts t p refl h

start_starts : (v : Variant) (ts : List (List ℕ)) (p : Position) → start_position_by v ts ≡ Some p → Starts v ts p
start_starts v [] p h = absurd (cc)
start_starts v (t ∷ ts) p h = word_starts v (is_word (codes "startpos") t) ts t p refl h

starts_start : (v : Variant) (ts : List (List ℕ)) (p : Position) → Starts v ts p → start_position_by v ts ≡ Some p
starts_start v _ _ Starts.Standard = refl
starts_start v _ p (Starts.SetUp e) = ap if_right e

-- `moves` is no part of a start
starts_none : (v : Variant) (ts : List (List ℕ)) (p : Position) → Starts v ts p → IsNoneOf is_moves_token ts
starts_none v _ _ Starts.Standard = refl
starts_none v _ p (Starts.SetUp {fields = fields} e) = fields_none v fields p e

-- THE LINE

whole_by : (b : Bool) (t : List ℕ) (ts : List (List ℕ)) → is_moves_token t ≡ b
    → (ts ≡ before_moves ts ++ (codes "moves" ∷ behind_moves ts)) ⊎ ((ts ≡ before_moves ts) × (behind_moves ts ≡ []))
    → (t ∷ ts ≡ cond b [] (t ∷ before_moves ts) ++ (codes "moves" ∷ cond b ts (behind_moves ts))) ⊎ ((t ∷ ts ≡ cond b [] (t ∷ before_moves ts)) × (cond b ts (behind_moves ts) ≡ []))
whole_by true t ts e i = inl (ap (λ w. w ∷ ts) (same_text t (codes "moves") e))
whole_by false t ts e (inl h) = inl (ap (λ us. t ∷ us) h)
whole_by false t ts e (inr h) = inr (ap (λ us. t ∷ us) h.0, h.1)

whole : (ts : List (List ℕ)) → (ts ≡ before_moves ts ++ (codes "moves" ∷ behind_moves ts)) ⊎ ((ts ≡ before_moves ts) × (behind_moves ts ≡ []))
whole [] = inr (refl, refl)
whole (t ∷ ts) = whole_by (is_moves_token t) t ts refl (whole ts)

-- the parts of what a line says
record Parts (start : Option Position) (moves : List (List ℕ)) (said : Line) : Type 0 where
  start_is : start ≡ Some said.start
  moves_are : moves ≡ said.moves
  led_to : position_after_texts moves (Some said.start) ≡ Some said.end

parts_to : (p : Position) (moves : List (List ℕ)) (o : Option Position) (said : Line) → position_after_texts moves (Some p) ≡ o → line_to p moves o ≡ Some said → Parts (Some p) moves said
parts_to p moves None said e h = absurd (cc)
parts_to p moves (Some q) said e h =
    let same : record { start = p; moves = moves; end = q } ≡ said = some_same h in
    let start : p ≡ said.start = ap (λ (l : Line). l.start) same in
    let end : q ≡ said.end = ap (λ (l : Line). l.end) same in
    record {
      start_is = ap Some start;
      moves_are = ap (λ (l : Line). l.moves) same;
      led_to = ap (λ r. position_after_texts moves (Some r)) (sym start) ∙ e ∙ ap Some end;
    }
  where
    some_same : {A : Type 0} {a b : A} → Some a ≡ Some b → a ≡ b
    some_same k = cc

parts_from : (start : Option Position) (moves : List (List ℕ)) (said : Line) → line_from start moves ≡ Some said → Parts start moves said
parts_from None moves said h = absurd (cc)
parts_from (Some p) moves said h = parts_to p moves (position_after_texts moves (Some p)) said refl h

pub line_speaks : (v : Variant) (ts : List (List ℕ)) (said : Line) → line_in_variant v ts ≡ Some said → Speaks v ts said
line_speaks v ts said h =
    let k = parts_from (start_position_by v (before_moves ts)) (behind_moves ts) said h in
    let leads = subst (λ (ms : List (List ℕ)). Leads said.start ms said.end) k.moves_are (led_leads (behind_moves ts) said.start said.end k.led_to) in
    record {
      first = before_moves ts;
      starts = start_starts v (before_moves ts) said.start k.start_is;
      leads = leads;
      whole = subst (λ (ms : List (List ℕ)). (ts ≡ before_moves ts ++ (codes "moves" ∷ ms)) ⊎ ((ts ≡ before_moves ts) × (ms ≡ []))) k.moves_are (whole ts);
    }

-- the tokens before and after `moves`
record Split (ts first moves : List (List ℕ)) : Type 0 where
  before_is : before_moves ts ≡ first
  behind_is : behind_moves ts ≡ moves

split_by : (ts first moves : List (List ℕ)) → IsNoneOf is_moves_token first → (ts ≡ first ++ (codes "moves" ∷ moves)) ⊎ ((ts ≡ first) × (moves ≡ [])) → Split ts first moves
split_by ts first moves n (inl h) = record {
  before_is = ap before_moves h ∙ before_at first moves (codes "moves") n refl;
  behind_is = ap behind_moves h ∙ behind_at first moves (codes "moves") n refl;
}
split_by ts first moves n (inr h) = record {
  before_is = ap before_moves h.0 ∙ before_none first n;
  behind_is = ap behind_moves h.0 ∙ behind_none first n ∙ sym h.1;
}

pub speaks_line : (v : Variant) (ts : List (List ℕ)) (said : Line) → Speaks v ts said → line_in_variant v ts ≡ Some said
speaks_line v ts said s =
    let k = split_by ts s.first said.moves (starts_none v s.first said.start s.starts) s.whole in
    ap (λ us. line_from (start_position_by v us) (behind_moves ts)) k.before_is
    ∙ ap (λ us. line_from (start_position_by v s.first) us) k.behind_is
    ∙ ap (λ o. line_from o said.moves) (starts_start v s.first said.start s.starts)
    ∙ ap (line_to said.start said.moves) (leads_led said.start said.moves said.end s.leads)

pub says_position : (v : Variant) (ts : List (List ℕ)) (said : Line) → (line_in_variant v ts ≡ Some said) ↔ Speaks v ts said
says_position v ts said = (line_speaks v ts said, speaks_line v ts said)
