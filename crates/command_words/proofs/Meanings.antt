-- What clap's answer says of the meaning of the words.
use Rattle.std.proofs.Common.{◌≡◌, ◌≢◌, inl, inr, ◌∙◌, Option, None, option_and_then, sym, ap, refl, List, [], ◌∷◌, true}
use Rattle.clap.specs.Words.{App, Text, HasMatchesOf, HasKind, IsAmong, Kinds, is_simple, is_simple_and_free, fault_of, kind_of, subcommand_of, subcommand_rows_of}
use Rattle.clap.specs.declared.error.Error.{Error}
use Rattle.clap.specs.declared.error.kind.ErrorKind.{ErrorKind}
use Rattle.clap.specs.declared.error.kind.ErrorKind.TheVariants.{OutOfMemory}
use Rattle.clap.specs.declared.parser.matches.ArgMatches.{ArgMatches}
use Rattle.clap.proofs.OnLiterals.{clap_on_literals}
use Rattle.command_words.specs.Meaning.{Asked, asked_of, meaning, unless_refused}
use Rattle.command_words.specs.Arguments.{the_app}

-- the command is one of which clap says everything
pub the_app_is_simple : is_simple the_app ≡ true
unfolding clap_on_literals
the_app_is_simple = refl

pub the_app_is_free : is_simple_and_free the_app ≡ true
unfolding clap_on_literals
the_app_is_free = refl

pub meaning_taken : (app : App) (words : List Text) (m : ArgMatches) → app ≡ the_app → (is_simple_and_free app ≡ true → fault_of app words ≡ []) → HasMatchesOf app words m
    → meaning words ≡ option_and_then asked_of (subcommand_rows_of m)
meaning_taken app words m e none h =
    let faults : fault_of the_app words ≡ [] = ap (λ (a : App). fault_of a words) (sym e) ∙ none (ap is_simple_and_free e ∙ the_app_is_free) in
    let found : subcommand_rows_of m ≡ subcommand_of the_app words = (h (ap is_simple e ∙ the_app_is_simple)).1 ∙ ap (λ (a : App). subcommand_of a words) e in
    rw faults (ap (option_and_then asked_of) (sym found))

none_at : (kinds : Kinds) (k : ErrorKind) (o : Option Asked) → IsAmong k kinds → unless_refused kinds o ≡ None
none_at [] k o h = absurd h
none_at (x ∷ xs) k o h = refl

none_of : (kinds : Kinds) (err : Error) (o : Option Asked) → HasKind kinds err → kind_of err ≢ OutOfMemory → unless_refused kinds o ≡ None
none_of kinds err o (inl h) other = absurd (other h)
none_of kinds err o (inr h) other = none_at kinds (kind_of err) o h

pub meaning_refused : (app : App) (words : List Text) (err : Error) → app ≡ the_app → (is_simple_and_free app ≡ true → HasKind (fault_of app words) err) → kind_of err ≢ OutOfMemory
    → meaning words ≡ None
meaning_refused app words err e h other =
    let at = ap (λ (a : App). fault_of a words) e in
    none_of (fault_of the_app words) err (option_and_then asked_of (subcommand_of the_app words)) (rw at at h (ap is_simple_and_free e ∙ the_app_is_free)) other
