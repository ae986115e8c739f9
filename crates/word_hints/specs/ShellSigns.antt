-- What is said of a file's name with a sign of the shell in it, where there is no such file.
-- Source: POSIX, "Shell Command Language", 2.2 (quotes), 2.6.1 (tilde) and 2.6.2 (parameters); the
-- words are this project's own.
use Rattle.std.specs.Prelude.{ℕ, ◌==◌, ◌||◌, Bool, List, [], codes, nat_eq, if◌then◌else◌}
use Rattle.std.specs.List.{list_any, starts_with}

-- a single or a double quote, and a dollar sign
abbrev pub is_quote : ℕ → Bool
is_quote b = b == 0x22 || b == 0x27

abbrev pub is_dollar : ℕ → Bool
is_dollar b = b == 0x24

-- THE HINT behind a sentence; nothing where no sign is in the name
abbrev pub shell_hint : List ℕ → List ℕ
shell_hint name =
    if list_any is_quote name then codes "; quotes are a part of the name"
    else (if starts_with nat_eq name (codes "~") then codes "; ~ is a part of the name, no folder"
    else (if list_any is_dollar name then codes "; $ is a part of the name, no value stands for it"
    else []))
