-- The scores that lines tell have at most nine digits.
use Rattle.std.proofs.Common.{◌≡◌, ℕ, ◌^◌, ◌<◌, Bool, true, false, cond, List, [], ◌∷◌, Option, Some, None, refl, subst}
use Rattle.std.specs.Prelude.{ℤ, nat_abs, IfSome, codes}
use Rattle.std.specs.Option.{option_or, option_map}
use Rattle.protocol_tokens.specs.Tokens.{tokens, trimmed, first_token, rest_after_token}
use Rattle.protocol_tokens.specs.Numbers.{centis}
use Rattle.protocol_tokens.proofs.Sizes.{centis_small}
use Rattle.uci_lines.specs.declared.messages.Score.{Score}
use Rattle.uci_lines.specs.declared.messages.Score.TheVariants.{Cp, Mate}
use Rattle.uci_lines.specs.declared.info.InfoField.{InfoField}
use Rattle.uci_lines.specs.declared.info.InfoField.TheVariants as fields
use Rattle.uci_lines.specs.Cuts.{Found, found_token, is_word, is_known}
use Rattle.uci_lines.specs.Infos.{field_named, first_score, hear, ends_info, facts_from, facts_in, no_facts}
use Rattle.uci_lines.specs.Messages as says
use Rattle.uci_lines.specs.Info.{Info}
use Rattle.uci_lines.specs.Messages.{EngineMsg}
use Rattle.uci_lines.specs.Engine.{engine_message, found_message, said_after, name_said, best_said}
use Rattle.uci_lines.specs.Options.{option_said, option_with, uci_option_line, shape_named}
use Rattle.uci_lines.specs.Scores.{IsCentis, ScoresAreCentis}

abbrev HasSmall : Info → Type 0
HasSmall f = IfSome f.score IsCentis

mate_small : (d : Option ℤ) → ((z : ℤ) → d ≡ Some z → nat_abs z < 10 ^ 9) → IfSome (option_map (λ n. Mate n) d) IsCentis
mate_small None f = tt
mate_small (Some z) f = f z refl

cp_small : (d : Option ℤ) → ((z : ℤ) → d ≡ Some z → nat_abs z < 10 ^ 9) → IfSome (option_map (λ n. Cp n) d) IsCentis
cp_small None f = tt
cp_small (Some z) f = f z refl

score_step : (a b : Bool) (number : List ℕ) → IfSome (cond a (option_map (λ n. Cp n) (centis number)) (cond b (option_map (λ n. Mate n) (centis number)) None)) IsCentis
score_step true b number = cp_small (centis number) (centis_small number)
score_step false true number = mate_small (centis number) (centis_small number)
score_step false false number = tt

first_small : (ts : List (List ℕ)) → IfSome (first_score ts) IsCentis
first_small [] = tt
first_small (unit ∷ []) = tt
first_small (unit ∷ number ∷ ts) = score_step (is_word (codes "cp") unit) (is_word (codes "mate") unit) number

or_small : (a b : Option Score) → IfSome a IsCentis → IfSome b IsCentis → IfSome (option_or a b) IsCentis
or_small None b f g = g
or_small (Some s) b f g = f

hear_small : (field : InfoField) (f : Info) (ts : List (List ℕ)) → HasSmall f → HasSmall (hear field f ts)
hear_small fields.Score f ts h = or_small (first_score ts) f.score (first_small ts) h
hear_small field f ts h = h

end_small : (b : Bool) (f g : Info) → HasSmall f → HasSmall g → HasSmall (cond b f g)
end_small true f g h k = h
end_small false f g h k = k

from_small : (f : Info) (ts : List (List ℕ)) → HasSmall f → HasSmall (facts_from f ts)
from_small f [] h = h
from_small f (t ∷ ts) h =
    let next : Info = hear (field_named t) f ts in
    end_small (ends_info (field_named t)) f (facts_from next ts) h (from_small next ts (hear_small (field_named t) f ts h))

in_small : (text : List ℕ) → HasSmall (facts_in text)
unfolding facts_in
in_small text = from_small no_facts (tokens text) tt

-- the report of a search, if there is one
abbrev SaysSmall : EngineMsg → Type 0
SaysSmall (says.Info f) = HasSmall f
SaysSmall _ = Unit {0}

line_small : (name : List ℕ) (shape : Option says.OptionKind) → SaysSmall (uci_option_line name shape)
line_small name None = tt
line_small name (Some shape) = tt

option_small : (b : Bool) (part : Option Found) → SaysSmall (cond b (option_with part) says.Nothing)
option_small false part = tt
option_small true None = tt
option_small true (Some part) = line_small (trimmed part.before) (shape_named (first_token part.after) (rest_after_token part.after))

said_option_small : (text : List ℕ) → SaysSmall (option_said text)
unfolding option_said
said_option_small text = option_small (is_word (codes "name") (first_token text)) (found_token (is_word (codes "type")) true (rest_after_token text))

name_small : (b : Bool) (text : List ℕ) → SaysSmall (cond b (says.Name text) says.Nothing)
name_small true text = tt
name_small false text = tt

either_small : (b : Bool) (x y : EngineMsg) → SaysSmall x → SaysSmall y → SaysSmall (cond b x y)
either_small true x y h k = h
either_small false x y h k = k

after_small : (word text : List ℕ) → SaysSmall (said_after word text)
after_small word text =
    either_small (is_word (codes "id") word) (name_said text) _ (name_small (is_word (codes "name") (first_token text)) (rest_after_token text))
    (either_small (is_word (codes "uciok") word) says.UciOk _ tt
    (either_small (is_word (codes "readyok") word) says.ReadyOk _ tt
    (either_small (is_word (codes "bestmove") word) (best_said text) _ tt
    (either_small (is_word (codes "info") word) (says.Info (facts_in text)) (option_said text) (in_small text) (said_option_small text)))))

by_small : (part : Option Found) → SaysSmall (found_message part)
by_small None = tt
by_small (Some part) = after_small part.word part.after

message_small : (line : List ℕ) → SaysSmall (engine_message line)
unfolding engine_message
message_small line = by_small (found_token is_known true line)

pub scores_are_centis : ScoresAreCentis
scores_are_centis line f e = subst (λ (x : EngineMsg). SaysSmall x) e (message_small line)
