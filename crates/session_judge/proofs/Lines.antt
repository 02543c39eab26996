-- A line that goes on where another one ends leads where the moves that it adds lead from there.
use Rattle.std.proofs.Common.{◌≡◌, ◌≢◌, ℕ, List, [], ◌∷◌, ◌++◌, drop, Bool, true, false, cond, filter, ltb, length, Bor, Option, Some, None, refl, sym, ap, subst, ◌∙◌}
use Rattle.std.specs.Prelude.{is_some}
use Rattle.std.specs.List.{slice_split, onto_first}
use Rattle.std.specs.Option.{MatchOption}
use Rattle.std.proofs.lemmas.List.Elements.{filter-append}
use Rattle.chess_board.specs.Position.{Position}
use Rattle.chess_board.specs.Spelling.{move_spelled_by}
use Rattle.protocol_tokens.specs.Tokens.{is_white, tokens}
use Rattle.protocol_tokens.proofs.TokenLists.{tokens_white}
use Rattle.uci_lines.specs.Spells.{begins_white}
use Rattle.uci_interface_lines.specs.Lines.{Line, position_line_in, line_in, line_from, line_to, start_position_in, position_after_texts, played_if_legal, is_moves_token, before_moves, behind_moves}
use Rattle.uci_interface_lines.proofs.Played.{led_none}
use Rattle.session_judge.specs.DialogueEvents.{end_of}
use Rattle.session_judge.specs.Played.{LeadsTo, LineExtends, LineGoesOn}

-- TOKENS

abbrev kept : List (List ℕ) → List (List ℕ)
kept parts = filter (λ part. ltb 0 (length part)) parts

onto_some : (x : ℕ) (parts more : List (List ℕ)) → parts ≢ [] → onto_first x (parts ++ more) ≡ onto_first x parts ++ more
onto_some x [] more n = absurd (n refl)
onto_some x (part ∷ parts) more n = refl

onto_is_some : (x : ℕ) (parts : List (List ℕ)) → onto_first x parts ≢ []
onto_is_some x [] e = cc
onto_is_some x (part ∷ parts) e = cc

some_by : (w : Bool) (x : ℕ) (xs : List ℕ) → cond w ([] ∷ slice_split is_white xs) (onto_first x (slice_split is_white xs)) ≢ []
some_by true x xs e = cc
some_by false x xs e = onto_is_some x (slice_split is_white xs) e

split_some : (xs : List ℕ) → slice_split is_white xs ≢ []
split_some [] e = cc
split_some (x ∷ xs) e = some_by (is_white x) x xs e

split_by : (w : Bool) (x : ℕ) (xs whole more : List (List ℕ)) → xs ≢ [] → whole ≡ xs ++ more → cond w ([] ∷ whole) (onto_first x whole) ≡ cond w ([] ∷ xs) (onto_first x xs) ++ more
split_by true x xs whole more n e = ap (λ ps. [] ∷ ps) e
split_by false x xs whole more n e = ap (onto_first x) e ∙ onto_some x xs more n

split_there : (xs more : List ℕ) (w : ℕ) → is_white w ≡ true → slice_split is_white (xs ++ (w ∷ more)) ≡ slice_split is_white xs ++ slice_split is_white more
split_there [] more w e = rw e refl
split_there (x ∷ xs) more w e = split_by (is_white x) x (slice_split is_white xs) (slice_split is_white (xs ++ (w ∷ more))) (slice_split is_white more) (split_some xs) (split_there xs more w e)

none_more : (ts : List (List ℕ)) → ts ++ [] ≡ ts
none_more [] = refl
none_more (t ∷ ts) = ap (λ us. t ∷ us) (none_more ts)

no_bytes : (xs : List ℕ) → xs ++ [] ≡ xs
no_bytes [] = refl
no_bytes (x ∷ xs) = ap (λ ys. x ∷ ys) (no_bytes xs)

-- white space is between two tokens
tokens_added : (xs more : List ℕ) → begins_white more ≡ true → tokens (xs ++ more) ≡ tokens xs ++ tokens more
tokens_added xs [] h = ap tokens (no_bytes xs) ∙ sym (none_more (tokens xs))
tokens_added xs (w ∷ more) h =
    ap kept (split_there xs more w h) ∙ filter-append (λ part. ltb 0 (length part)) (slice_split is_white xs) (slice_split is_white more)
    ∙ ap (λ ts. tokens xs ++ ts) (sym (tokens_white w more h))

-- a text with a token has tokens
pub some_tokens : (first : Option (Bor (List ℕ) × Bor (List ℕ))) (ts : List (List ℕ)) → MatchOption first (ts ≡ []) (λ p. ts ≡ p.0.now ∷ tokens p.1.now) → is_some first ≡ true → ts ≢ []
some_tokens None ts h e = absurd (cc)
some_tokens (Some p) ts h e = λ none. absurd (cc)

-- THE LINE

moves_to : (p : Position) (moves : List (List ℕ)) (o : Option Position) (said : Line) → line_to p moves o ≡ Some said → said.moves ≡ moves
moves_to p moves None said e = cc
moves_to p moves (Some q) said e =
    let same : (let l : Line = record { start = p; moves = moves; end = q } in l) ≡ said = cc in
    sym (ap (λ (l : Line). l.moves) same)

moves_from : (start : Option Position) (moves : List (List ℕ)) (said : Line) → line_from start moves ≡ Some said → said.moves ≡ moves
moves_from None moves said e = cc
moves_from (Some p) moves said e = moves_to p moves (position_after_texts moves (Some p)) said e

-- a line that was read, and has moves
pub said_leads : (line : List ℕ) (said : Line) → position_line_in line ≡ Some said → said.moves ≢ [] → LeadsTo line said.end
unfolding position_line_in
said_leads line said e n = record {
  leads = ap end_of e;
  has_moves = λ none. n (moves_from (start_position_in (before_moves (drop 1 (tokens line)))) (behind_moves (drop 1 (tokens line))) said e ∙ none);
}

-- after a `moves` that has moves others are only added
before_added : (ts us : List (List ℕ)) → behind_moves ts ≢ [] → before_moves (ts ++ us) ≡ before_moves ts
before_added [] us n = absurd (n refl)
before_added (t ∷ ts) us n = by (is_moves_token t) (before_added ts us) n where
  by : (b : Bool) → (behind_moves ts ≢ [] → before_moves (ts ++ us) ≡ before_moves ts) → cond b ts (behind_moves ts) ≢ [] → cond b [] (t ∷ before_moves (ts ++ us)) ≡ cond b [] (t ∷ before_moves ts)
  by true i k = refl
  by false i k = ap (λ vs. t ∷ vs) (i k)

behind_added : (ts us : List (List ℕ)) → behind_moves ts ≢ [] → behind_moves (ts ++ us) ≡ behind_moves ts ++ us
behind_added [] us n = absurd (n refl)
behind_added (t ∷ ts) us n = by (is_moves_token t) (behind_added ts us) n where
  by : (b : Bool) → (behind_moves ts ≢ [] → behind_moves (ts ++ us) ≡ behind_moves ts ++ us) → cond b ts (behind_moves ts) ≢ [] → cond b (ts ++ us) (behind_moves (ts ++ us)) ≡ cond b ts (behind_moves ts) ++ us
  by true i k = refl
  by false i k = i k

led_on : (ts us : List (List ℕ)) (p : Option Position) → position_after_texts (ts ++ us) p ≡ position_after_texts us (position_after_texts ts p)
led_on [] us p = refl
led_on (t ∷ ts) us None = sym (led_none us)
led_on (t ∷ ts) us (Some p) = led_on ts us (played_if_legal p (move_spelled_by t))

ends_at : (p : Position) (moves : List (List ℕ)) (o : Option Position) → end_of (line_to p moves o) ≡ o
ends_at p moves None = refl
ends_at p moves (Some q) = refl

from_there : (start : Option Position) (ts us : List (List ℕ)) (at : Position) → end_of (line_from start ts) ≡ Some at → end_of (line_from start (ts ++ us)) ≡ position_after_texts us (Some at)
from_there None ts us at e = cc
from_there (Some p) ts us at e =
    ends_at p (ts ++ us) (position_after_texts (ts ++ us) (Some p)) ∙ led_on ts us (Some p) ∙ ap (position_after_texts us) (sym (ends_at p ts (position_after_texts ts (Some p))) ∙ e)

line_on : (ts us : List (List ℕ)) (at : Position) → behind_moves ts ≢ [] → end_of (line_in ts) ≡ Some at → end_of (line_in (ts ++ us)) ≡ position_after_texts us (Some at)
line_on ts us at n e =
    ap (λ vs. end_of (line_from (start_position_in vs) (behind_moves (ts ++ us)))) (before_added ts us n)
    ∙ ap (λ vs. end_of (line_from (start_position_in (before_moves ts)) vs)) (behind_added ts us n)
    ∙ from_there (start_position_in (before_moves ts)) (behind_moves ts) us at e

-- without its first token
others_added : (ts us : List (List ℕ)) → behind_moves (drop 1 ts) ≢ [] → drop 1 (ts ++ us) ≡ drop 1 ts ++ us
others_added [] us n = absurd (n refl)
others_added (t ∷ ts) us n = refl

tokens_on : (line : List ℕ) (at : Position) (more : List ℕ) → (g : LineGoesOn line at more) → drop 1 (tokens line) ≡ drop 1 (tokens g.known) ++ tokens more
tokens_on line at more g =
    ap (λ text. drop 1 (tokens text)) g.adds.whole ∙ ap (drop 1) (tokens_added g.known more g.adds.apart)
    ∙ others_added (tokens g.known) (tokens more) g.leads.has_moves

-- only what is added is played
pub plays_on : (line : List ℕ) (at : Position) (more : List ℕ) → LineGoesOn line at more → end_of (position_line_in line) ≡ position_after_texts (tokens more) (Some at)
unfolding position_line_in
plays_on line at more g =
    ap (λ ts. end_of (line_in ts)) (tokens_on line at more g)
    ∙ line_on (drop 1 (tokens g.known)) (tokens more) at g.leads.has_moves g.leads.leads

joined_some : (ts us : List (List ℕ)) → ts ≢ [] → ts ++ us ≢ []
joined_some [] us n e = n refl
joined_some (t ∷ ts) us n e = cc

-- and then the longer line is known
pub leads_on : (line : List ℕ) (at end : Position) (more : List ℕ) → LineGoesOn line at more → position_after_texts (tokens more) (Some at) ≡ Some end → LeadsTo line end
leads_on line at end more g e = record {
  leads = plays_on line at more g ∙ e;
  has_moves = λ none. joined_some (behind_moves (drop 1 (tokens g.known))) (tokens more) g.leads.has_moves
      (sym (ap behind_moves (tokens_on line at more g) ∙ behind_added (drop 1 (tokens g.known)) (tokens more) g.leads.has_moves) ∙ none);
}
