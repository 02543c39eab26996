-- A thinking line says nothing of the dialogue.
use Rattle.std.proofs.Common.{◌≡◌, ℕ, List, [], ◌∷◌, ◌++◌, codes, Bool, true, false, not, Option, Some, None, refl, sym, ap, ◌∙◌}
use Rattle.std.specs.List.{list_all}
use Rattle.std.proofs.lemmas.Bool.{and_parts}
use Rattle.protocol_tokens.specs.Tokens.{first_token, rest_after_token, tokens}
use Rattle.protocol_tokens.proofs.TokenLists.{tokens_some}
use Rattle.uci_lines.specs.Cuts.{Found, found_token, is_known}
use Rattle.uci_lines.specs.Engine.{engine_message, found_message, said_after}
use Rattle.uci_lines.specs.Spells.{IsNoneOf}
use Rattle.uci_lines.proofs.CutTokens.{cut_tokens}
use Rattle.uci_lines.proofs.FirstTokens.{cut_first, cut_none}
use Rattle.session_judge.specs.DialogueEvents.{answer_as_shown, said_dialogue_event}
use Rattle.session_judge.specs.declared.dialogue_event.DialogueEvent.TheVariants as dialogue_events

-- the first token that passes is the first one, if that passes
first_passes : (p : List ℕ → Bool) (before : List (List ℕ)) (word t : List ℕ) (after others : List (List ℕ)) → t ∷ others ≡ before ++ (word ∷ after) → IsNoneOf p before → p t ≡ true → word ≡ t
first_passes p [] word t after others e n k = cc
first_passes p (s ∷ before) word t after others e n k =
    let same : t ≡ s = cc in
    let fails = (and_parts (not (p s)) (list_all (λ u. not (p u)) before) n).0 in
    let passes : p s ≡ true = ap p (sym same) ∙ k in
    absurd (cc)

at_cut : (line : List ℕ) (o : Option Found) → first_token line ≡ codes "info" → found_token is_known true line ≡ o → answer_as_shown (found_message o) ≡ dialogue_events.Nothing
at_cut line None e h =
    let none : IsNoneOf is_known (codes "info" ∷ tokens (rest_after_token line)) = ap (list_all (λ t. not (is_known t))) (sym (tokens_some line _ _ e)) ∙ cut_none is_known line h in
    absurd (cc)
at_cut line (Some part) e h =
    let first = cut_first is_known line part refl h in
    let word : part.word ≡ codes "info" =
    first_passes is_known (tokens part.before) part.word (codes "info") (tokens part.after) (tokens (rest_after_token line)) (sym (tokens_some line _ _ e) ∙ cut_tokens is_known line part refl h) first.none_before refl in
    ap (λ w. answer_as_shown (said_after w part.after)) word

pub thinking_says_nothing : (line : List ℕ) → first_token line ≡ codes "info" → said_dialogue_event line ≡ dialogue_events.Nothing
unfolding engine_message
thinking_says_nothing line e = at_cut line (found_token is_known true line) e refl
