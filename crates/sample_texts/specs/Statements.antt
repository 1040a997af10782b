-- The statements of a sample, without their semicolons.
use Rattle.std.specs.Prelude.{ℕ, List, [], ◌∷◌, ◌++◌, codes, decimal, if◌then◌else◌}
use Rattle.sql_spelling.specs.Texts.{name_text, literal_text}
use Rattle.sample_texts.specs.declared.round.Round.{Round}

abbrev pub T : Type 0
T = List ℕ

-- a connection is called like its user
unfoldable pub connect : T → T
connect user = codes "CONNECT TO 'D' AS " ++ literal_text user ++ codes " USER " ++ literal_text user

unfoldable pub create_schema : T → T
create_schema user = codes "CREATE SCHEMA " ++ name_text user

unfoldable pub use_connection : T → T
use_connection user = codes "SET CONNECTION " ++ literal_text user

unfoldable pub create_table : ℕ → T
create_table number = codes "CREATE TABLE T" ++ decimal number ++ codes " (A INTEGER NOT NULL, B VARCHAR(20), PRIMARY KEY (A))"

unfoldable pub grant_table : ℕ → T → T
grant_table number grantee = codes "GRANT SELECT ON T" ++ decimal number ++ codes " TO " ++ name_text grantee ++ codes " WITH GRANT OPTION"

-- a table's name behind its schema's, which is called like its owner
unfoldable pub table_of : T → ℕ → T
table_of owner number = name_text owner ++ codes ".T" ++ decimal number

unfoldable pub create_view : ℕ → T → T
create_view number owner = codes "CREATE VIEW V" ++ decimal number ++ codes " AS SELECT A, B FROM " ++ table_of owner number

unfoldable pub grant_view : ℕ → T → T
grant_view number reader = codes "GRANT SELECT ON V" ++ decimal number ++ codes " TO " ++ name_text reader

unfoldable pub revoke_table : ℕ → T → T
revoke_table number grantee = codes "REVOKE SELECT ON T" ++ decimal number ++ codes " FROM " ++ name_text grantee ++ codes " CASCADE"

unfoldable pub drop_table : ℕ → T
drop_table number = codes "DROP TABLE T" ++ decimal number ++ codes " CASCADE"

-- a user connects, and makes a schema
abbrev pub opening : T → List T
opening user = connect user ∷ create_schema user ∷ []

-- the owner makes a table and grants it; the grantee makes a view of it, and grants that to the reader
abbrev pub grants : Round → List T
grants r = use_connection r.owner ∷ create_table r.number ∷ grant_table r.number r.grantee
    ∷ use_connection r.grantee ∷ create_view r.number r.owner ∷ grant_view r.number r.reader ∷ []

-- the owner takes the table back from the grantee
abbrev pub revocation : Round → List T
revocation r = if r.revoked then use_connection r.owner ∷ revoke_table r.number r.grantee ∷ [] else []

-- the owner drops the table
abbrev pub removal : Round → List T
removal r = if r.dropped then use_connection r.owner ∷ drop_table r.number ∷ [] else []

abbrev pub round_texts : Round → List T
round_texts r = grants r ++ revocation r ++ removal r
