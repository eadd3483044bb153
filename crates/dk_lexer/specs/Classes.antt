-- Trusted: the classes of bytes.
use Rattle.std.specs.Prelude.{ℕ, Bool, true, false, if◌then◌else◌, ◌==◌, nat_le, ◌&&◌, ◌||◌}
use Rattle.dk_lexer.specs.declared.class.Class.{Class}
use Rattle.dk_lexer.specs.declared.class.Class.TheVariants as class

abbrev pub is_letter : ℕ → Bool
is_letter b = (nat_le 97 b && nat_le b 122) || (nat_le 65 b && nat_le b 90)

abbrev pub is_digit : ℕ → Bool
is_digit b = ((nat_le 48 b && nat_le b 57) || (b == 33)) || (b == 63)

abbrev pub is_blank : ℕ → Bool
is_blank b = ((b == 32) || (b == 9)) || (b == 13)

abbrev pub bracket_class : ℕ → Class
bracket_class b = if b == 40 then class.OpenBracket else (if b == 41 then class.CloseBracket
    else (if b == 91 then class.OpenSquare else (if b == 93 then class.CloseSquare
    else (if b == 123 then class.OpenBrace else (if b == 125 then class.CloseBrace
    else (if b == 124 then class.Bar else (if b == 59 then class.Semicolon
    else (if b == 35 then class.Hash else class.Other))))))))

abbrev pub sign_class : ℕ → Class
sign_class b = if b == 58 then class.Colon else (if b == 61 then class.Equals
    else (if b == 45 then class.Minus else (if b == 62 then class.Greater
    else (if b == 46 then class.Dot else (if b == 44 then class.Comma else bracket_class b)))))

-- the class of a byte
unfoldable pub class_of : ℕ → Class
class_of b = if is_letter b then class.Letter else (if is_digit b then class.Digit
    else (if b == 95 then class.Underscore else (if b == 39 then class.Quote
    else (if is_blank b then class.Blank else (if b == 10 then class.Newline else sign_class b)))))

-- may it stand in a name
abbrev pub in_name : Class → Bool
in_name class.Letter = true
in_name class.Digit = true
in_name class.Underscore = true
in_name class.Quote = true
in_name _ = false

abbrev pub is_letter_class : Class → Bool
is_letter_class class.Letter = true
is_letter_class _ = false

-- may it begin a name
abbrev pub begins_name : Class → Bool
begins_name class.Letter = true
begins_name class.Digit = true
begins_name class.Underscore = true
begins_name _ = false
