-- A path or a file is set as any string is.
use Rattle.std.proofs.Common.{◌≡◌, ℕ, List, [], ◌∷◌, map, Bool, true, false, cond, codes, Option, Some, None, Ok, refl, ap, ◌∙◌}
use Rattle.std.specs.Option.{option_map}
use Rattle.cecp_lines.specs.Messages.{IfaceMsg}
use Rattle.cecp_lines.specs.Messages as says
use Rattle.uci_lines.specs.Orders.{Order}
use Rattle.option_map.specs.DeclaredOptions.Names.{same_text}
use Rattle.option_map.specs.DeclaredOptions.Settings.{OptionSetting, option_by_name}
use Rattle.option_map.specs.WaitingOrders.Asked.{as_string, set_found, clamped, path_for, PathsAreSetAsStrings}

found_by : (w : Bool) (o : OptionSetting) (a b : Option OptionSetting) → a ≡ option_map as_string b → cond w (Some (as_string o)) a ≡ option_map as_string (cond w (Some o) b)
found_by true o a b e = refl
found_by false o a b e = e

found_as : (name : List ℕ) (os : List OptionSetting) → option_by_name name (map as_string os) ≡ option_map as_string (option_by_name name os)
found_as name [] = refl
found_as name (o ∷ os) = found_by (same_text name o.name) o (option_by_name name (map as_string os)) (option_by_name name os) (found_as name os)

set_as : (o : Option OptionSetting) (value : Option (List ℕ)) → set_found (option_map as_string o) value ≡ set_found o value
set_as None value = refl
set_as (Some o) None = refl
set_as (Some o) (Some value) = refl

clamped_as : (o : Option OptionSetting) (n : ℕ) → clamped (option_map as_string o) n ≡ clamped o n
clamped_as None n = refl
clamped_as (Some o) n = refl

path_as : (o : Option OptionSetting) (path : List ℕ) → path_for (option_map as_string o) path ≡ path_for o path
path_as None path = refl
path_as (Some o) path = refl

number_as : (name : List ℕ) (os : List OptionSetting) (n : ℕ) → clamped (option_by_name name (map as_string os)) n ≡ clamped (option_by_name name os) n
number_as name os n = ap (λ (o : Option OptionSetting). clamped o n) (found_as name os) ∙ clamped_as (option_by_name name os) n

pub set_as_strings : PathsAreSetAsStrings
set_as_strings os (says.SetOption name value) = ap (λ (o : Option OptionSetting). set_found o value) (found_as name os) ∙ set_as (option_by_name name os) value
set_as_strings os (says.Memory n) = ap (λ (x : Option Order). Ok x) (number_as (codes "Hash") os n)
set_as_strings os (says.Cores n) = ap (λ (x : Option Order). Ok x) (number_as (codes "Threads") os n)
set_as_strings os (says.EgtPath kind path) =
    let name = codes "NalimovPath" in
    ap (λ (x : Option Order). Ok (cond (same_text (codes "nalimov") kind) x None)) (ap (λ (o : Option OptionSetting). path_for o path) (found_as name os) ∙ path_as (option_by_name name os) path)
set_as_strings os m = refl
