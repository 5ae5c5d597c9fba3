-- Written by vectors/toy.py: what the definitions are asked for, and what they ought to give.
use Rattle.std.specs.Prelude.{true, List, [], ◌∷◌, ◌++◌, map, ℕ, get_or, take, drop, replicate}
use Rattle.slices.specs.Lists.{choose, part, put}
use Rattle.banquet.specs.declared.Verdict.{Verdict}
use Rattle.banquet.specs.Answer.{Answer, accepted, verdict, verdict_of, clears, work_after, output_after}
use Rattle.banquet.specs.Signer.{tape_of, product_offset_at}
use Rattle.banquet.specs.Opening.{opening}
use Rattle.banquet.specs.Signature.{frame_of}
use Rattle.banquet.specs.Calls.{
  public_key_answer,
  make_public_key,
  sign_answer,
  sign,
  verify_answer,
  open_answer,
  open_execution,
  verify_opening_answer,
  verify_opening,
}
use Rattle.banquet.specs.Card.{has_size, card_text, printed}
use Rattle.toy.specs.Toy.{toy, rows_toy, wide_toy, Row, answers, insert, remove, opening_checked, signature_checked, card_checked}

abbrev pub key : List ℕ
key = 50 ∷ 51 ∷ 52 ∷ 53 ∷ 54 ∷ 55 ∷ 56 ∷ 57 ∷ 58 ∷ 59 ∷ 60 ∷ 61 ∷ 62 ∷ 63 ∷ 64 ∷ 65 ∷ []

abbrev pub plaintext : List ℕ
plaintext = 100 ∷ 101 ∷ 102 ∷ 103 ∷ 104 ∷ []

abbrev pub salt : List ℕ
salt = 200 ∷ 201 ∷ 202 ∷ 203 ∷ 204 ∷ 205 ∷ 206 ∷ 207 ∷ 208 ∷ 209 ∷ 210 ∷ 211 ∷ 212 ∷ 213 ∷ 214 ∷ 215 ∷ 216 ∷ 217 ∷ 218 ∷ 219 ∷ 220 ∷ 221 ∷ 222 ∷ 223 ∷ 224 ∷ 225 ∷ 226 ∷ 227 ∷ 228 ∷ 229 ∷ 230 ∷ 231 ∷ []

abbrev pub seeds : List ℕ
seeds = 0 ∷ 1 ∷ 2 ∷ 3 ∷ 4 ∷ 5 ∷ 6 ∷ 7 ∷ 8 ∷ 9 ∷ 10 ∷ 11 ∷ 12 ∷ 13 ∷ 14 ∷ 15 ∷ 16 ∷ 17 ∷ 18 ∷ 19 ∷ 20 ∷ 21 ∷ 22 ∷ 23 ∷ 24 ∷ 25 ∷ 26 ∷ 27 ∷ 28 ∷ 29 ∷ 30 ∷ 31 ∷ []

abbrev pub message : List ℕ
message = 97 ∷ 98 ∷ 99 ∷ []

abbrev pub public_key : List ℕ
public_key = 100 ∷ 101 ∷ 102 ∷ 103 ∷ 104 ∷ 181 ∷ 80 ∷ 52 ∷ 53 ∷ 54 ∷ 55 ∷ 56 ∷ 57 ∷ 58 ∷ 59 ∷ 60 ∷ 61 ∷ 62 ∷ 63 ∷ 64 ∷ 65 ∷ []

abbrev pub signature_file : List ℕ
signature_file = 200 ∷ 201 ∷ 202 ∷ 203 ∷ 204 ∷ 205 ∷ 206 ∷ 207 ∷ 208 ∷ 209 ∷ 210 ∷ 211 ∷ 212 ∷ 213 ∷ 214 ∷ 215 ∷ 216 ∷ 217 ∷ 218 ∷ 219 ∷ 220 ∷ 221 ∷ 222 ∷ 223 ∷ 224 ∷ 225 ∷ 226 ∷ 227 ∷ 228 ∷ 229 ∷ 230 ∷ 231 ∷ 179 ∷ 213 ∷ 189 ∷ 240 ∷ 184 ∷ 251 ∷ 36 ∷ 139 ∷ 180 ∷ 24 ∷ 196 ∷ 4 ∷ 71 ∷ 137 ∷ 144 ∷ 114 ∷ 167 ∷ 35 ∷ 163 ∷ 112 ∷ 188 ∷ 246 ∷ 236 ∷ 252 ∷ 111 ∷ 167 ∷ 77 ∷ 146 ∷ 229 ∷ 201 ∷ 251 ∷ 172 ∷ 164 ∷ 108 ∷ 177 ∷ 2 ∷ 114 ∷ 187 ∷ 70 ∷ 48 ∷ 219 ∷ 239 ∷ 41 ∷ 102 ∷ 192 ∷ 87 ∷ 255 ∷ 5 ∷ 214 ∷ 158 ∷ 224 ∷ 81 ∷ 56 ∷ 149 ∷ 182 ∷ 222 ∷ 227 ∷ 228 ∷ 57 ∷ 185 ∷ 230 ∷ 239 ∷ 185 ∷ 38 ∷ 189 ∷ 186 ∷ 244 ∷ 124 ∷ 125 ∷ 205 ∷ 151 ∷ 99 ∷ 46 ∷ 236 ∷ 243 ∷ 89 ∷ 2 ∷ 102 ∷ 177 ∷ 12 ∷ 12 ∷ 68 ∷ 187 ∷ 111 ∷ 176 ∷ 230 ∷ 236 ∷ 195 ∷ 123 ∷ 177 ∷ 1 ∷ 16 ∷ 52 ∷ 16 ∷ 15 ∷ 213 ∷ 208 ∷ 221 ∷ 205 ∷ 45 ∷ 123 ∷ 202 ∷ 96 ∷ 149 ∷ 169 ∷ 96 ∷ 56 ∷ 192 ∷ 230 ∷ 109 ∷ 74 ∷ 200 ∷ 167 ∷ 108 ∷ 146 ∷ 9 ∷ 72 ∷ 108 ∷ 249 ∷ 30 ∷ 249 ∷ 198 ∷ 193 ∷ 5 ∷ 89 ∷ 22 ∷ 216 ∷ 190 ∷ 170 ∷ 29 ∷ 200 ∷ 67 ∷ 48 ∷ 53 ∷ 216 ∷ 222 ∷ 230 ∷ 137 ∷ 122 ∷ 164 ∷ 202 ∷ 11 ∷ 153 ∷ 198 ∷ 243 ∷ 12 ∷ 192 ∷ 199 ∷ 45 ∷ 17 ∷ 137 ∷ 226 ∷ 91 ∷ 164 ∷ 164 ∷ 21 ∷ 228 ∷ 155 ∷ 120 ∷ 170 ∷ 252 ∷ 51 ∷ 16 ∷ 87 ∷ 154 ∷ 153 ∷ 35 ∷ 117 ∷ 46 ∷ 179 ∷ 86 ∷ 179 ∷ 202 ∷ 174 ∷ 129 ∷ 36 ∷ 45 ∷ 55 ∷ 185 ∷ 222 ∷ 75 ∷ 90 ∷ 61 ∷ 158 ∷ 145 ∷ 128 ∷ 124 ∷ 30 ∷ 128 ∷ 3 ∷ 191 ∷ 18 ∷ 54 ∷ 1 ∷ 224 ∷ 52 ∷ 138 ∷ 110 ∷ 88 ∷ 150 ∷ 241 ∷ 109 ∷ 204 ∷ 204 ∷ 201 ∷ 105 ∷ 216 ∷ 103 ∷ 80 ∷ 242 ∷ 49 ∷ 193 ∷ 220 ∷ 177 ∷ 177 ∷ 180 ∷ 132 ∷ 11 ∷ 153 ∷ 240 ∷ 169 ∷ 215 ∷ 76 ∷ 51 ∷ 246 ∷ 120 ∷ 33 ∷ 20 ∷ 168 ∷ 212 ∷ 221 ∷ 192 ∷ 121 ∷ 214 ∷ 242 ∷ 204 ∷ []

abbrev pub opening_file : List ℕ
opening_file = 200 ∷ 201 ∷ 202 ∷ 203 ∷ 204 ∷ 205 ∷ 206 ∷ 207 ∷ 208 ∷ 209 ∷ 210 ∷ 211 ∷ 212 ∷ 213 ∷ 214 ∷ 215 ∷ 216 ∷ 217 ∷ 218 ∷ 219 ∷ 220 ∷ 221 ∷ 222 ∷ 223 ∷ 224 ∷ 225 ∷ 226 ∷ 227 ∷ 228 ∷ 229 ∷ 230 ∷ 231 ∷ 1 ∷ 243 ∷ 135 ∷ 3 ∷ 226 ∷ 242 ∷ 71 ∷ 154 ∷ 31 ∷ 91 ∷ 175 ∷ 81 ∷ 132 ∷ 228 ∷ 145 ∷ 121 ∷ 188 ∷ 120 ∷ 214 ∷ 186 ∷ 93 ∷ 226 ∷ 73 ∷ 123 ∷ 184 ∷ 225 ∷ 230 ∷ 95 ∷ 34 ∷ 27 ∷ 240 ∷ 144 ∷ 3 ∷ 255 ∷ 94 ∷ 140 ∷ 218 ∷ 124 ∷ 252 ∷ 136 ∷ 221 ∷ 5 ∷ 237 ∷ 245 ∷ 191 ∷ 195 ∷ 32 ∷ 220 ∷ 173 ∷ 192 ∷ 44 ∷ 44 ∷ 197 ∷ 143 ∷ 144 ∷ 253 ∷ 85 ∷ 46 ∷ 132 ∷ 60 ∷ 243 ∷ 79 ∷ 107 ∷ 200 ∷ 134 ∷ 144 ∷ 12 ∷ 58 ∷ 45 ∷ 115 ∷ 237 ∷ 136 ∷ 161 ∷ 125 ∷ 149 ∷ 110 ∷ 204 ∷ 162 ∷ 228 ∷ 15 ∷ 240 ∷ 155 ∷ 220 ∷ 82 ∷ 254 ∷ 191 ∷ 217 ∷ 25 ∷ 149 ∷ 180 ∷ 250 ∷ 62 ∷ 24 ∷ 226 ∷ 31 ∷ 232 ∷ 116 ∷ 138 ∷ 57 ∷ 228 ∷ 177 ∷ 61 ∷ 147 ∷ 209 ∷ 167 ∷ 27 ∷ 42 ∷ 237 ∷ 220 ∷ 30 ∷ 14 ∷ 29 ∷ 155 ∷ 238 ∷ 225 ∷ 60 ∷ 201 ∷ 41 ∷ 100 ∷ 46 ∷ 59 ∷ 213 ∷ 29 ∷ 151 ∷ 19 ∷ 50 ∷ 90 ∷ 253 ∷ 235 ∷ 209 ∷ 136 ∷ 236 ∷ 77 ∷ 34 ∷ 192 ∷ 199 ∷ 165 ∷ 244 ∷ 12 ∷ 70 ∷ 242 ∷ 18 ∷ 107 ∷ 160 ∷ 49 ∷ 114 ∷ 188 ∷ 77 ∷ 233 ∷ 200 ∷ 23 ∷ 71 ∷ 44 ∷ 92 ∷ 11 ∷ 242 ∷ 141 ∷ 43 ∷ 201 ∷ 68 ∷ 81 ∷ 199 ∷ 250 ∷ 171 ∷ 73 ∷ 9 ∷ 122 ∷ 99 ∷ 142 ∷ 196 ∷ 88 ∷ 14 ∷ 203 ∷ 28 ∷ 159 ∷ 1 ∷ 150 ∷ 31 ∷ 21 ∷ 171 ∷ 180 ∷ 84 ∷ 38 ∷ 223 ∷ 195 ∷ 70 ∷ 55 ∷ 227 ∷ 77 ∷ 25 ∷ 157 ∷ 138 ∷ 228 ∷ 82 ∷ 121 ∷ 196 ∷ 49 ∷ 52 ∷ 31 ∷ 163 ∷ 215 ∷ 157 ∷ 5 ∷ 162 ∷ 116 ∷ 103 ∷ 91 ∷ 128 ∷ []

abbrev pub first_hidden : List ℕ
first_hidden = 200 ∷ 201 ∷ 202 ∷ 203 ∷ 204 ∷ 205 ∷ 206 ∷ 207 ∷ 208 ∷ 209 ∷ 210 ∷ 211 ∷ 212 ∷ 213 ∷ 214 ∷ 215 ∷ 216 ∷ 217 ∷ 218 ∷ 219 ∷ 220 ∷ 221 ∷ 222 ∷ 223 ∷ 224 ∷ 225 ∷ 226 ∷ 227 ∷ 228 ∷ 229 ∷ 230 ∷ 231 ∷ 0 ∷ 161 ∷ 11 ∷ 67 ∷ 94 ∷ 63 ∷ 167 ∷ 219 ∷ 226 ∷ 10 ∷ 186 ∷ 0 ∷ 184 ∷ 62 ∷ 14 ∷ 111 ∷ 198 ∷ 104 ∷ 218 ∷ 18 ∷ 42 ∷ 73 ∷ 236 ∷ 243 ∷ 61 ∷ 226 ∷ 97 ∷ 92 ∷ 20 ∷ 184 ∷ 96 ∷ 241 ∷ 48 ∷ 177 ∷ 175 ∷ 181 ∷ 216 ∷ 26 ∷ 62 ∷ 80 ∷ 64 ∷ 50 ∷ 133 ∷ 112 ∷ 134 ∷ 35 ∷ 39 ∷ 232 ∷ 25 ∷ 200 ∷ 217 ∷ 120 ∷ 247 ∷ 44 ∷ 161 ∷ 150 ∷ 190 ∷ 64 ∷ 198 ∷ 52 ∷ 193 ∷ 0 ∷ 200 ∷ 65 ∷ 81 ∷ 208 ∷ 221 ∷ 205 ∷ 45 ∷ 123 ∷ 202 ∷ 96 ∷ 149 ∷ 169 ∷ 96 ∷ 56 ∷ 192 ∷ 230 ∷ 109 ∷ 74 ∷ 200 ∷ 167 ∷ 108 ∷ 146 ∷ 9 ∷ 72 ∷ 108 ∷ 249 ∷ 30 ∷ 249 ∷ 198 ∷ 193 ∷ 5 ∷ 89 ∷ 22 ∷ 216 ∷ 190 ∷ 69 ∷ 112 ∷ 234 ∷ 150 ∷ 245 ∷ 131 ∷ 91 ∷ 124 ∷ 116 ∷ 53 ∷ 141 ∷ 96 ∷ 30 ∷ 105 ∷ 172 ∷ 53 ∷ 8 ∷ 227 ∷ 65 ∷ 219 ∷ 111 ∷ 29 ∷ 203 ∷ 129 ∷ 206 ∷ 208 ∷ 74 ∷ 95 ∷ 37 ∷ 22 ∷ 196 ∷ 163 ∷ 248 ∷ 195 ∷ 159 ∷ 120 ∷ 172 ∷ 169 ∷ 168 ∷ 196 ∷ 128 ∷ 222 ∷ 251 ∷ 2 ∷ 5 ∷ 64 ∷ 40 ∷ 215 ∷ 170 ∷ 29 ∷ 200 ∷ 67 ∷ 48 ∷ 53 ∷ 216 ∷ 222 ∷ 230 ∷ 137 ∷ 122 ∷ 164 ∷ 202 ∷ 11 ∷ 153 ∷ 198 ∷ 243 ∷ 250 ∷ 12 ∷ 67 ∷ 1 ∷ 47 ∷ 146 ∷ 167 ∷ 64 ∷ 218 ∷ 175 ∷ 13 ∷ 112 ∷ 28 ∷ 0 ∷ 30 ∷ 102 ∷ 151 ∷ 209 ∷ 97 ∷ 130 ∷ 12 ∷ 22 ∷ 114 ∷ 170 ∷ 104 ∷ 132 ∷ 78 ∷ 180 ∷ 233 ∷ 1 ∷ 254 ∷ 123 ∷ 92 ∷ 125 ∷ 246 ∷ 40 ∷ 116 ∷ 9 ∷ 54 ∷ 246 ∷ 156 ∷ 209 ∷ 219 ∷ 180 ∷ 33 ∷ 193 ∷ []

abbrev pub rows_key : List ℕ
rows_key = 100 ∷ 101 ∷ 102 ∷ 103 ∷ 104 ∷ 181 ∷ 52 ∷ 16 ∷ 143 ∷ 85 ∷ 55 ∷ 56 ∷ 57 ∷ 58 ∷ 59 ∷ 60 ∷ 61 ∷ 62 ∷ 63 ∷ 64 ∷ 65 ∷ []

abbrev pub rows_signature : List ℕ
rows_signature = 200 ∷ 201 ∷ 202 ∷ 203 ∷ 204 ∷ 205 ∷ 206 ∷ 207 ∷ 208 ∷ 209 ∷ 210 ∷ 211 ∷ 212 ∷ 213 ∷ 214 ∷ 215 ∷ 216 ∷ 217 ∷ 218 ∷ 219 ∷ 220 ∷ 221 ∷ 222 ∷ 223 ∷ 224 ∷ 225 ∷ 226 ∷ 227 ∷ 228 ∷ 229 ∷ 230 ∷ 231 ∷ 3 ∷ 111 ∷ 90 ∷ 72 ∷ 57 ∷ 249 ∷ 132 ∷ 135 ∷ 141 ∷ 118 ∷ 131 ∷ 154 ∷ 148 ∷ 0 ∷ 99 ∷ 13 ∷ 234 ∷ 34 ∷ 24 ∷ 190 ∷ 238 ∷ 181 ∷ 228 ∷ 233 ∷ 36 ∷ 153 ∷ 49 ∷ 137 ∷ 155 ∷ 170 ∷ 226 ∷ 192 ∷ 129 ∷ 13 ∷ 243 ∷ 251 ∷ 219 ∷ 55 ∷ 94 ∷ 209 ∷ 218 ∷ 32 ∷ 100 ∷ 118 ∷ 230 ∷ 223 ∷ 214 ∷ 164 ∷ 76 ∷ 97 ∷ 227 ∷ 114 ∷ 149 ∷ 176 ∷ 215 ∷ 254 ∷ 62 ∷ 21 ∷ 169 ∷ 49 ∷ 40 ∷ 155 ∷ 108 ∷ 199 ∷ 189 ∷ 186 ∷ 244 ∷ 124 ∷ 125 ∷ 205 ∷ 151 ∷ 99 ∷ 46 ∷ 236 ∷ 243 ∷ 89 ∷ 2 ∷ 102 ∷ 177 ∷ 12 ∷ 95 ∷ 63 ∷ 164 ∷ 228 ∷ 44 ∷ 176 ∷ 78 ∷ 16 ∷ 179 ∷ 76 ∷ 107 ∷ 200 ∷ 64 ∷ 82 ∷ 97 ∷ 182 ∷ 230 ∷ 12 ∷ 73 ∷ 79 ∷ 116 ∷ 124 ∷ 31 ∷ 186 ∷ 247 ∷ 13 ∷ 54 ∷ 16 ∷ 100 ∷ 17 ∷ 159 ∷ 143 ∷ 185 ∷ 254 ∷ 16 ∷ 255 ∷ 198 ∷ 205 ∷ 107 ∷ 128 ∷ 20 ∷ 46 ∷ 230 ∷ 29 ∷ 199 ∷ 159 ∷ 62 ∷ 14 ∷ 156 ∷ 219 ∷ 147 ∷ 14 ∷ 160 ∷ 202 ∷ 236 ∷ 46 ∷ 56 ∷ 223 ∷ 238 ∷ 24 ∷ []

abbrev pub rows_opening : List ℕ
rows_opening = 200 ∷ 201 ∷ 202 ∷ 203 ∷ 204 ∷ 205 ∷ 206 ∷ 207 ∷ 208 ∷ 209 ∷ 210 ∷ 211 ∷ 212 ∷ 213 ∷ 214 ∷ 215 ∷ 216 ∷ 217 ∷ 218 ∷ 219 ∷ 220 ∷ 221 ∷ 222 ∷ 223 ∷ 224 ∷ 225 ∷ 226 ∷ 227 ∷ 228 ∷ 229 ∷ 230 ∷ 231 ∷ 0 ∷ 9 ∷ 129 ∷ 171 ∷ 43 ∷ 234 ∷ 76 ∷ 51 ∷ 247 ∷ 197 ∷ 193 ∷ 101 ∷ 84 ∷ 135 ∷ 139 ∷ 93 ∷ 133 ∷ 73 ∷ 161 ∷ 182 ∷ 64 ∷ 46 ∷ 66 ∷ 248 ∷ 34 ∷ 142 ∷ 96 ∷ 17 ∷ 250 ∷ 204 ∷ 228 ∷ 162 ∷ 178 ∷ 95 ∷ 63 ∷ 164 ∷ 228 ∷ 44 ∷ 176 ∷ 78 ∷ 16 ∷ 179 ∷ 76 ∷ 107 ∷ 200 ∷ 64 ∷ 82 ∷ 97 ∷ 182 ∷ 230 ∷ 12 ∷ 73 ∷ 79 ∷ 116 ∷ 124 ∷ 31 ∷ 186 ∷ 247 ∷ 13 ∷ 54 ∷ 16 ∷ 100 ∷ 17 ∷ 159 ∷ 143 ∷ 204 ∷ 131 ∷ 70 ∷ 215 ∷ 113 ∷ 83 ∷ 86 ∷ 239 ∷ 91 ∷ 110 ∷ 61 ∷ 93 ∷ 57 ∷ 187 ∷ 39 ∷ 223 ∷ 121 ∷ 183 ∷ 86 ∷ 88 ∷ 36 ∷ 100 ∷ 110 ∷ 214 ∷ 97 ∷ 85 ∷ 1 ∷ 96 ∷ 7 ∷ 132 ∷ 103 ∷ 158 ∷ 185 ∷ 254 ∷ 16 ∷ 255 ∷ 198 ∷ 205 ∷ 107 ∷ 128 ∷ 20 ∷ 46 ∷ 230 ∷ 29 ∷ 199 ∷ 159 ∷ 62 ∷ 14 ∷ 156 ∷ 219 ∷ 147 ∷ 14 ∷ 5 ∷ 250 ∷ 160 ∷ 131 ∷ 183 ∷ 77 ∷ 90 ∷ 143 ∷ 244 ∷ 78 ∷ 180 ∷ 176 ∷ 57 ∷ 164 ∷ 188 ∷ 20 ∷ 1 ∷ 189 ∷ 186 ∷ 244 ∷ 124 ∷ 125 ∷ 205 ∷ 151 ∷ 99 ∷ 46 ∷ 236 ∷ 243 ∷ 89 ∷ 2 ∷ 102 ∷ 177 ∷ 12 ∷ []

abbrev pub wide_key : List ℕ
wide_key = 100 ∷ 101 ∷ 102 ∷ 103 ∷ 104 ∷ 181 ∷ 52 ∷ 87 ∷ 53 ∷ 54 ∷ 55 ∷ 56 ∷ 57 ∷ 58 ∷ 59 ∷ 60 ∷ 61 ∷ 62 ∷ 63 ∷ 64 ∷ 65 ∷ []

abbrev pub wide_opening : List ℕ
wide_opening = 200 ∷ 201 ∷ 202 ∷ 203 ∷ 204 ∷ 205 ∷ 206 ∷ 207 ∷ 208 ∷ 209 ∷ 210 ∷ 211 ∷ 212 ∷ 213 ∷ 214 ∷ 215 ∷ 216 ∷ 217 ∷ 218 ∷ 219 ∷ 220 ∷ 221 ∷ 222 ∷ 223 ∷ 224 ∷ 225 ∷ 226 ∷ 227 ∷ 228 ∷ 229 ∷ 230 ∷ 231 ∷ 0 ∷ 9 ∷ 129 ∷ 171 ∷ 43 ∷ 234 ∷ 76 ∷ 51 ∷ 247 ∷ 197 ∷ 193 ∷ 101 ∷ 84 ∷ 135 ∷ 139 ∷ 93 ∷ 133 ∷ 73 ∷ 161 ∷ 182 ∷ 64 ∷ 46 ∷ 66 ∷ 248 ∷ 34 ∷ 142 ∷ 96 ∷ 17 ∷ 250 ∷ 204 ∷ 228 ∷ 162 ∷ 178 ∷ 95 ∷ 63 ∷ 164 ∷ 228 ∷ 44 ∷ 176 ∷ 78 ∷ 16 ∷ 179 ∷ 76 ∷ 107 ∷ 200 ∷ 64 ∷ 82 ∷ 97 ∷ 182 ∷ 230 ∷ 12 ∷ 73 ∷ 79 ∷ 116 ∷ 124 ∷ 31 ∷ 186 ∷ 247 ∷ 13 ∷ 54 ∷ 16 ∷ 100 ∷ 17 ∷ 159 ∷ 143 ∷ 204 ∷ 131 ∷ 37 ∷ 142 ∷ 18 ∷ 83 ∷ 86 ∷ 239 ∷ 91 ∷ 110 ∷ 61 ∷ 93 ∷ 57 ∷ 187 ∷ 39 ∷ 223 ∷ 121 ∷ 183 ∷ 114 ∷ 187 ∷ 36 ∷ 100 ∷ 110 ∷ 214 ∷ 97 ∷ 85 ∷ 1 ∷ 96 ∷ 7 ∷ 132 ∷ 103 ∷ 158 ∷ 185 ∷ 254 ∷ 16 ∷ 255 ∷ 198 ∷ 205 ∷ 107 ∷ 128 ∷ 20 ∷ 46 ∷ 230 ∷ 29 ∷ 199 ∷ 159 ∷ 62 ∷ 14 ∷ 156 ∷ 219 ∷ 5 ∷ 250 ∷ 7 ∷ 131 ∷ 184 ∷ 118 ∷ 190 ∷ 191 ∷ 52 ∷ 18 ∷ 86 ∷ 231 ∷ 191 ∷ 187 ∷ 179 ∷ 133 ∷ 112 ∷ 213 ∷ 65 ∷ 104 ∷ 92 ∷ 55 ∷ 146 ∷ 115 ∷ 8 ∷ 146 ∷ 12 ∷ 232 ∷ 241 ∷ 124 ∷ 0 ∷ 30 ∷ 102 ∷ 151 ∷ 209 ∷ 97 ∷ 130 ∷ 12 ∷ 22 ∷ 114 ∷ 170 ∷ 104 ∷ 132 ∷ 78 ∷ 180 ∷ 233 ∷ 1 ∷ []

abbrev pub card : List ℕ
card = 54 ∷ 52 ∷ 54 ∷ 53 ∷ 54 ∷ 54 ∷ 54 ∷ 55 ∷ 54 ∷ 56 ∷ 98 ∷ 53 ∷ 53 ∷ 48 ∷ 51 ∷ 52 ∷ 51 ∷ 53 ∷ 51 ∷ 54 ∷ 51 ∷ 55 ∷ 51 ∷ 56 ∷ 51 ∷ 57 ∷ 51 ∷ 97 ∷ 51 ∷ 98 ∷ 51 ∷ 99 ∷ 51 ∷ 100 ∷ 51 ∷ 101 ∷ 51 ∷ 102 ∷ 52 ∷ 48 ∷ 52 ∷ 49 ∷ 10 ∷ 54 ∷ 49 ∷ 54 ∷ 50 ∷ 54 ∷ 51 ∷ 10 ∷ 99 ∷ 56 ∷ 99 ∷ 57 ∷ 99 ∷ 97 ∷ 99 ∷ 98 ∷ 99 ∷ 99 ∷ 99 ∷ 100 ∷ 99 ∷ 101 ∷ 99 ∷ 102 ∷ 100 ∷ 48 ∷ 100 ∷ 49 ∷ 100 ∷ 50 ∷ 100 ∷ 51 ∷ 100 ∷ 52 ∷ 100 ∷ 53 ∷ 100 ∷ 54 ∷ 100 ∷ 55 ∷ 100 ∷ 56 ∷ 100 ∷ 57 ∷ 100 ∷ 97 ∷ 100 ∷ 98 ∷ 100 ∷ 99 ∷ 100 ∷ 100 ∷ 100 ∷ 101 ∷ 100 ∷ 102 ∷ 101 ∷ 48 ∷ 101 ∷ 49 ∷ 101 ∷ 50 ∷ 101 ∷ 51 ∷ 101 ∷ 52 ∷ 101 ∷ 53 ∷ 101 ∷ 54 ∷ 101 ∷ 55 ∷ 98 ∷ 51 ∷ 100 ∷ 53 ∷ 98 ∷ 100 ∷ 102 ∷ 48 ∷ 98 ∷ 56 ∷ 102 ∷ 98 ∷ 50 ∷ 52 ∷ 56 ∷ 98 ∷ 98 ∷ 52 ∷ 49 ∷ 56 ∷ 99 ∷ 52 ∷ 48 ∷ 52 ∷ 52 ∷ 55 ∷ 56 ∷ 57 ∷ 57 ∷ 48 ∷ 55 ∷ 50 ∷ 97 ∷ 55 ∷ 50 ∷ 51 ∷ 97 ∷ 51 ∷ 55 ∷ 48 ∷ 98 ∷ 99 ∷ 102 ∷ 54 ∷ 101 ∷ 99 ∷ 102 ∷ 99 ∷ 54 ∷ 102 ∷ 97 ∷ 55 ∷ 52 ∷ 100 ∷ 57 ∷ 50 ∷ 101 ∷ 53 ∷ 99 ∷ 57 ∷ 102 ∷ 98 ∷ 97 ∷ 99 ∷ 97 ∷ 52 ∷ 54 ∷ 99 ∷ 98 ∷ 49 ∷ 48 ∷ 50 ∷ 55 ∷ 50 ∷ 98 ∷ 98 ∷ 52 ∷ 54 ∷ 51 ∷ 48 ∷ 100 ∷ 98 ∷ 101 ∷ 102 ∷ 50 ∷ 57 ∷ 54 ∷ 54 ∷ 99 ∷ 48 ∷ 53 ∷ 55 ∷ 102 ∷ 102 ∷ 48 ∷ 53 ∷ 100 ∷ 54 ∷ 57 ∷ 101 ∷ 101 ∷ 48 ∷ 53 ∷ 49 ∷ 51 ∷ 56 ∷ 57 ∷ 53 ∷ 98 ∷ 54 ∷ 100 ∷ 101 ∷ 101 ∷ 51 ∷ 101 ∷ 52 ∷ 51 ∷ 57 ∷ 98 ∷ 57 ∷ 101 ∷ 54 ∷ 101 ∷ 102 ∷ 98 ∷ 57 ∷ 50 ∷ 54 ∷ 10 ∷ 98 ∷ 100 ∷ 98 ∷ 97 ∷ 102 ∷ 52 ∷ 55 ∷ 99 ∷ 55 ∷ 100 ∷ 99 ∷ 100 ∷ 57 ∷ 55 ∷ 54 ∷ 51 ∷ 50 ∷ 101 ∷ 101 ∷ 99 ∷ 102 ∷ 51 ∷ 53 ∷ 57 ∷ 48 ∷ 50 ∷ 54 ∷ 54 ∷ 98 ∷ 49 ∷ 48 ∷ 99 ∷ 48 ∷ 99 ∷ 52 ∷ 52 ∷ 98 ∷ 98 ∷ 54 ∷ 102 ∷ 98 ∷ 48 ∷ 101 ∷ 54 ∷ 101 ∷ 99 ∷ 99 ∷ 51 ∷ 55 ∷ 98 ∷ 98 ∷ 49 ∷ 48 ∷ 49 ∷ 49 ∷ 48 ∷ 51 ∷ 52 ∷ 49 ∷ 48 ∷ 48 ∷ 102 ∷ 100 ∷ 53 ∷ 100 ∷ 48 ∷ 100 ∷ 100 ∷ 99 ∷ 100 ∷ 50 ∷ 100 ∷ 55 ∷ 98 ∷ 99 ∷ 97 ∷ 54 ∷ 48 ∷ 57 ∷ 53 ∷ 97 ∷ 57 ∷ 54 ∷ 48 ∷ 51 ∷ 56 ∷ 99 ∷ 48 ∷ 101 ∷ 54 ∷ 54 ∷ 100 ∷ 52 ∷ 97 ∷ 99 ∷ 56 ∷ 97 ∷ 55 ∷ 54 ∷ 99 ∷ 57 ∷ 50 ∷ 48 ∷ 57 ∷ 52 ∷ 56 ∷ 54 ∷ 99 ∷ 102 ∷ 57 ∷ 49 ∷ 101 ∷ 102 ∷ 57 ∷ 99 ∷ 54 ∷ 99 ∷ 49 ∷ 48 ∷ 53 ∷ 53 ∷ 57 ∷ 49 ∷ 54 ∷ 100 ∷ 56 ∷ 98 ∷ 101 ∷ 97 ∷ 97 ∷ 49 ∷ 100 ∷ 99 ∷ 56 ∷ 52 ∷ 51 ∷ 51 ∷ 48 ∷ 51 ∷ 53 ∷ 100 ∷ 56 ∷ 100 ∷ 101 ∷ 101 ∷ 54 ∷ 56 ∷ 57 ∷ 55 ∷ 97 ∷ 97 ∷ 52 ∷ 99 ∷ 97 ∷ 48 ∷ 98 ∷ 57 ∷ 57 ∷ 99 ∷ 54 ∷ 102 ∷ 51 ∷ 48 ∷ 99 ∷ 99 ∷ 48 ∷ 99 ∷ 55 ∷ 50 ∷ 100 ∷ 49 ∷ 49 ∷ 10 ∷ 56 ∷ 57 ∷ 101 ∷ 50 ∷ 53 ∷ 98 ∷ 97 ∷ 52 ∷ 97 ∷ 52 ∷ 49 ∷ 53 ∷ 101 ∷ 52 ∷ 57 ∷ 98 ∷ 55 ∷ 56 ∷ 97 ∷ 97 ∷ 102 ∷ 99 ∷ 51 ∷ 51 ∷ 49 ∷ 48 ∷ 53 ∷ 55 ∷ 57 ∷ 97 ∷ 57 ∷ 57 ∷ 50 ∷ 51 ∷ 55 ∷ 53 ∷ 50 ∷ 101 ∷ 98 ∷ 51 ∷ 53 ∷ 54 ∷ 98 ∷ 51 ∷ 99 ∷ 97 ∷ 97 ∷ 101 ∷ 56 ∷ 49 ∷ 50 ∷ 52 ∷ 50 ∷ 100 ∷ 51 ∷ 55 ∷ 98 ∷ 57 ∷ 100 ∷ 101 ∷ 52 ∷ 98 ∷ 53 ∷ 97 ∷ 51 ∷ 100 ∷ 57 ∷ 101 ∷ 57 ∷ 49 ∷ 56 ∷ 48 ∷ 55 ∷ 99 ∷ 49 ∷ 101 ∷ 56 ∷ 48 ∷ 48 ∷ 51 ∷ 98 ∷ 102 ∷ 49 ∷ 50 ∷ 51 ∷ 54 ∷ 48 ∷ 49 ∷ 101 ∷ 48 ∷ 51 ∷ 52 ∷ 56 ∷ 97 ∷ 54 ∷ 101 ∷ 53 ∷ 56 ∷ 57 ∷ 54 ∷ 102 ∷ 49 ∷ 54 ∷ 100 ∷ 99 ∷ 99 ∷ 99 ∷ 99 ∷ 99 ∷ 57 ∷ 54 ∷ 57 ∷ 100 ∷ 56 ∷ 54 ∷ 55 ∷ 53 ∷ 48 ∷ 102 ∷ 50 ∷ 51 ∷ 49 ∷ 99 ∷ 49 ∷ 100 ∷ 99 ∷ 98 ∷ 49 ∷ 98 ∷ 49 ∷ 98 ∷ 52 ∷ 56 ∷ 52 ∷ 48 ∷ 98 ∷ 57 ∷ 57 ∷ 102 ∷ 48 ∷ 97 ∷ 57 ∷ 100 ∷ 55 ∷ 52 ∷ 99 ∷ 51 ∷ 51 ∷ 102 ∷ 54 ∷ 55 ∷ 56 ∷ 50 ∷ 49 ∷ 49 ∷ 52 ∷ 97 ∷ 56 ∷ 100 ∷ 52 ∷ 100 ∷ 100 ∷ 99 ∷ 48 ∷ 55 ∷ 57 ∷ 100 ∷ 54 ∷ 102 ∷ 50 ∷ 99 ∷ 99 ∷ 10 ∷ []

-- ---- the five calls: number and place

abbrev pub calls : List ℕ → List (Row Verdict)
calls work =
    -- each refusal along with all later ones, and then none: make a public key
    (verdict_of (public_key_answer toy (take 15 key) (take 4 plaintext) (replicate 20 7)), verdict 1 0)
    ∷ (verdict_of (public_key_answer toy (put key 0 (100 ∷ [])) (take 4 plaintext) (replicate 20 7)), verdict 2 0)
    ∷ (verdict_of (public_key_answer toy (put key 0 (100 ∷ [])) plaintext (replicate 20 7)), verdict 6 0)
    ∷ (verdict_of (public_key_answer toy (put key 0 (100 ∷ [])) plaintext (replicate 24 7)), verdict 11 0)
    ∷ (verdict_of (public_key_answer toy key plaintext (replicate 24 7)), verdict 0 0)
    -- sign
    ∷ (verdict_of (sign_answer toy (take 15 key) (take 20 public_key) (replicate 32769 0) (take 31 salt) (take 31 seeds) (replicate 267 7) (drop 1 work)), verdict 1 0)
    ∷ (verdict_of (sign_answer toy (put key 0 (100 ∷ [])) (take 20 public_key) (replicate 32769 0) (take 31 salt) (take 31 seeds) (replicate 267 7) (drop 1 work)), verdict 2 0)
    ∷ (verdict_of (sign_answer toy (put key 0 (100 ∷ [])) public_key (replicate 32769 0) (take 31 salt) (take 31 seeds) (replicate 267 7) (drop 1 work)), verdict 3 0)
    ∷ (verdict_of (sign_answer toy (put key 0 (100 ∷ [])) public_key message (take 31 salt) (take 31 seeds) (replicate 267 7) (drop 1 work)), verdict 4 0)
    ∷ (verdict_of (sign_answer toy (put key 0 (100 ∷ [])) public_key message salt (take 31 seeds) (replicate 267 7) (drop 1 work)), verdict 5 0)
    ∷ (verdict_of (sign_answer toy (put key 0 (100 ∷ [])) public_key message salt seeds (replicate 267 7) (drop 1 work)), verdict 6 0)
    ∷ (verdict_of (sign_answer toy (put key 0 (100 ∷ [])) public_key message salt seeds (replicate 271 7) (drop 1 work)), verdict 7 0)
    ∷ (verdict_of (sign_answer toy (put key 0 (100 ∷ [])) public_key message salt seeds (replicate 271 7) work), verdict 11 0)
    ∷ (verdict_of (sign_answer toy (put key 9 (58 ∷ [])) public_key message salt seeds (replicate 271 7) work), verdict 12 0)
    ∷ (verdict_of (sign_answer toy key public_key message salt seeds (replicate 271 7) work), verdict 0 0)
    -- check a signature, of which the rest is below
    ∷ (verdict_of (verify_answer toy (take 20 public_key) (replicate 32769 0) (take 267 signature_file) (drop 1 work)), verdict 2 0)
    ∷ (verdict_of (verify_answer toy public_key (replicate 32769 0) (take 267 signature_file) (drop 1 work)), verdict 3 0)
    ∷ (verdict_of (verify_answer toy public_key message (take 267 signature_file) (drop 1 work)), verdict 6 0)
    ∷ (verdict_of (verify_answer toy public_key message (put signature_file 265 (215 ∷ [])) (drop 1 work)), verdict 7 0)
    ∷ (verdict_of (verify_answer toy public_key message (put signature_file 265 (215 ∷ [])) work), verdict 15 1)
    ∷ (verdict_of (verify_answer toy public_key message (signature_file ++ (0 ∷ [])) work), verdict 6 0)
    -- a message as long as may be
    ∷ (verdict_of (verify_answer toy public_key (replicate 32768 0) (take 267 signature_file) work), verdict 6 0)
    -- open an execution
    ∷ (verdict_of (open_answer toy (take 15 key) (take 20 public_key) (take 31 salt) (take 15 seeds) (250 ∷ 0 ∷ []) 2 0 3 (replicate 239 7) (drop 1 work)), verdict 1 0)
    ∷ (verdict_of (open_answer toy (put key 0 (100 ∷ [])) (take 20 public_key) (take 31 salt) (take 15 seeds) (250 ∷ 0 ∷ []) 2 0 3 (replicate 239 7) (drop 1 work)), verdict 2 0)
    ∷ (verdict_of (open_answer toy (put key 0 (100 ∷ [])) public_key (take 31 salt) (take 15 seeds) (250 ∷ 0 ∷ []) 2 0 3 (replicate 239 7) (drop 1 work)), verdict 4 0)
    ∷ (verdict_of (open_answer toy (put key 0 (100 ∷ [])) public_key salt (take 15 seeds) (250 ∷ 0 ∷ []) 2 0 3 (replicate 239 7) (drop 1 work)), verdict 4 0)
    ∷ (verdict_of (open_answer toy (put key 0 (100 ∷ [])) public_key salt (take 15 seeds) (250 ∷ []) 2 0 3 (replicate 239 7) (drop 1 work)), verdict 5 0)
    ∷ (verdict_of (open_answer toy (put key 0 (100 ∷ [])) public_key salt (take 16 seeds) (250 ∷ []) 2 0 3 (replicate 239 7) (drop 1 work)), verdict 6 0)
    ∷ (verdict_of (open_answer toy (put key 0 (100 ∷ [])) public_key salt (take 16 seeds) (250 ∷ []) 2 0 3 (replicate 243 7) (drop 1 work)), verdict 7 0)
    ∷ (verdict_of (open_answer toy (put key 0 (100 ∷ [])) public_key salt (take 16 seeds) (250 ∷ []) 2 0 3 (replicate 243 7) work), verdict 8 0)
    ∷ (verdict_of (open_answer toy (put key 0 (100 ∷ [])) public_key salt (take 16 seeds) (250 ∷ []) 1 0 3 (replicate 243 7) work), verdict 9 0)
    ∷ (verdict_of (open_answer toy (put key 0 (100 ∷ [])) public_key salt (take 16 seeds) (250 ∷ []) 1 0 1 (replicate 243 7) work), verdict 10 0)
    ∷ (verdict_of (open_answer toy (put key 0 (100 ∷ [])) public_key salt (take 16 seeds) (250 ∷ []) 1 9 1 (replicate 243 7) work), verdict 11 0)
    ∷ (verdict_of (open_answer toy (put key 9 (58 ∷ [])) public_key salt (take 16 seeds) (250 ∷ []) 1 9 1 (replicate 243 7) work), verdict 12 0)
    ∷ (verdict_of (open_answer toy key public_key salt (take 16 seeds) (250 ∷ []) 1 9 1 (replicate 243 7) work), verdict 0 0)
    -- numbers that no byte holds
    ∷ (verdict_of (open_answer toy key public_key salt (take 16 seeds) (250 ∷ []) 256 9 1 (replicate 243 7) work), verdict 8 0)
    ∷ (verdict_of (open_answer toy key public_key salt (take 16 seeds) (250 ∷ []) 1 9 257 (replicate 243 7) work), verdict 9 0)
    -- check an opening, of which the rest is below
    ∷ (verdict_of (verify_opening_answer toy (take 20 public_key) (take 239 opening_file) (drop 1 work)), verdict 2 0)
    ∷ (verdict_of (verify_opening_answer toy public_key (take 239 opening_file) (drop 1 work)), verdict 6 0)
    ∷ (verdict_of (verify_opening_answer toy public_key (put (put (put opening_file 197 (0 ∷ [])) 207 (3 ∷ [])) 32 (2 ∷ [])) (drop 1 work)), verdict 7 0)
    ∷ (verdict_of (verify_opening_answer toy public_key (put (put (put opening_file 197 (0 ∷ [])) 207 (3 ∷ [])) 32 (2 ∷ [])) work), verdict 8 0)
    ∷ (verdict_of (verify_opening_answer toy public_key (put (put opening_file 197 (0 ∷ [])) 207 (3 ∷ [])) work), verdict 9 0)
    ∷ (verdict_of (verify_opening_answer toy public_key (put opening_file 197 (0 ∷ [])) work), verdict 10 0)
    ∷ (verdict_of (verify_opening_answer toy public_key (opening_file ++ (0 ∷ [])) work), verdict 6 0)
    ∷ []

-- ---- what the lent slices hold afterwards

abbrev pub slices : List ℕ → List (Row (List ℕ))
slices work =
    -- outputs, to which three bytes more are lent than are written
    ((make_public_key toy key plaintext (replicate 24 7)).output, 100 ∷ 101 ∷ 102 ∷ 103 ∷ 104 ∷ 181 ∷ 80 ∷ 52 ∷ 53 ∷ 54 ∷ 55 ∷ 56 ∷ 57 ∷ 58 ∷ 59 ∷ 60 ∷ 61 ∷ 62 ∷ 63 ∷ 64 ∷ 65 ∷ 7 ∷ 7 ∷ 7 ∷ [])
    ∷ ((open_execution toy key public_key salt (take 16 seeds) (250 ∷ []) 1 9 1 (replicate 243 7) work).output, 200 ∷ 201 ∷ 202 ∷ 203 ∷ 204 ∷ 205 ∷ 206 ∷ 207 ∷ 208 ∷ 209 ∷ 210 ∷ 211 ∷ 212 ∷ 213 ∷ 214 ∷ 215 ∷ 216 ∷ 217 ∷ 218 ∷ 219 ∷ 220 ∷ 221 ∷ 222 ∷ 223 ∷ 224 ∷ 225 ∷ 226 ∷ 227 ∷ 228 ∷ 229 ∷ 230 ∷ 231 ∷ 1 ∷ 243 ∷ 135 ∷ 3 ∷ 226 ∷ 242 ∷ 71 ∷ 154 ∷ 31 ∷ 91 ∷ 175 ∷ 81 ∷ 132 ∷ 228 ∷ 145 ∷ 121 ∷ 188 ∷ 120 ∷ 214 ∷ 186 ∷ 93 ∷ 226 ∷ 73 ∷ 123 ∷ 184 ∷ 225 ∷ 230 ∷ 95 ∷ 34 ∷ 27 ∷ 240 ∷ 144 ∷ 3 ∷ 255 ∷ 94 ∷ 140 ∷ 218 ∷ 124 ∷ 252 ∷ 136 ∷ 221 ∷ 5 ∷ 237 ∷ 245 ∷ 191 ∷ 195 ∷ 32 ∷ 220 ∷ 173 ∷ 192 ∷ 44 ∷ 44 ∷ 197 ∷ 143 ∷ 144 ∷ 253 ∷ 85 ∷ 46 ∷ 132 ∷ 60 ∷ 243 ∷ 79 ∷ 107 ∷ 200 ∷ 134 ∷ 144 ∷ 12 ∷ 58 ∷ 45 ∷ 115 ∷ 237 ∷ 136 ∷ 161 ∷ 125 ∷ 149 ∷ 110 ∷ 204 ∷ 162 ∷ 228 ∷ 15 ∷ 240 ∷ 155 ∷ 220 ∷ 82 ∷ 254 ∷ 191 ∷ 217 ∷ 25 ∷ 149 ∷ 180 ∷ 250 ∷ 62 ∷ 24 ∷ 226 ∷ 31 ∷ 232 ∷ 116 ∷ 138 ∷ 57 ∷ 228 ∷ 177 ∷ 61 ∷ 147 ∷ 209 ∷ 167 ∷ 27 ∷ 42 ∷ 237 ∷ 220 ∷ 30 ∷ 14 ∷ 29 ∷ 155 ∷ 238 ∷ 225 ∷ 60 ∷ 201 ∷ 41 ∷ 100 ∷ 46 ∷ 59 ∷ 213 ∷ 29 ∷ 151 ∷ 19 ∷ 50 ∷ 90 ∷ 253 ∷ 235 ∷ 209 ∷ 136 ∷ 236 ∷ 77 ∷ 34 ∷ 192 ∷ 199 ∷ 165 ∷ 244 ∷ 12 ∷ 70 ∷ 242 ∷ 18 ∷ 107 ∷ 160 ∷ 49 ∷ 114 ∷ 188 ∷ 77 ∷ 233 ∷ 200 ∷ 23 ∷ 71 ∷ 44 ∷ 92 ∷ 11 ∷ 242 ∷ 141 ∷ 43 ∷ 201 ∷ 68 ∷ 81 ∷ 199 ∷ 250 ∷ 171 ∷ 73 ∷ 9 ∷ 122 ∷ 99 ∷ 142 ∷ 196 ∷ 88 ∷ 14 ∷ 203 ∷ 28 ∷ 159 ∷ 1 ∷ 150 ∷ 31 ∷ 21 ∷ 171 ∷ 180 ∷ 84 ∷ 38 ∷ 223 ∷ 195 ∷ 70 ∷ 55 ∷ 227 ∷ 77 ∷ 25 ∷ 157 ∷ 138 ∷ 228 ∷ 82 ∷ 121 ∷ 196 ∷ 49 ∷ 52 ∷ 31 ∷ 163 ∷ 215 ∷ 157 ∷ 5 ∷ 162 ∷ 116 ∷ 103 ∷ 91 ∷ 128 ∷ 7 ∷ 7 ∷ 7 ∷ [])
    -- where a call is refused
    ∷ ((make_public_key toy (put key 0 (100 ∷ [])) plaintext (replicate 24 7)).output, 7 ∷ 7 ∷ 7 ∷ 7 ∷ 7 ∷ 7 ∷ 7 ∷ 7 ∷ 7 ∷ 7 ∷ 7 ∷ 7 ∷ 7 ∷ 7 ∷ 7 ∷ 7 ∷ 7 ∷ 7 ∷ 7 ∷ 7 ∷ 7 ∷ 7 ∷ 7 ∷ 7 ∷ [])
    ∷ (take 3 (sign toy (put key 9 (58 ∷ [])) public_key message salt seeds (replicate 271 7) work).output, 7 ∷ 7 ∷ 7 ∷ [])
    ∷ (take 3 (open_execution toy key public_key salt (take 16 seeds) (250 ∷ []) 2 9 1 (replicate 243 7) work).output, 7 ∷ 7 ∷ 7 ∷ [])
    -- the work slice after signing, and after an opening's check (13 and 9)
    ∷ (take 3 (sign toy key public_key message salt seeds (replicate 271 7) work).work, 0 ∷ 0 ∷ 0 ∷ [])
    ∷ (take 3 (verify_opening toy public_key (put opening_file 33 (242 ∷ [])) work).work, 0 ∷ 0 ∷ 0 ∷ [])
    ∷ (take 3 (verify_opening toy public_key (put opening_file 207 (3 ∷ [])) work).work, 7 ∷ 7 ∷ 7 ∷ [])
    -- all answers in turn: what 7 in a work slice becomes, and in an output on which 5 is written
    ∷ (map (λ (x : Answer). choose (clears (verdict_of x)) 0 7) answers, 0 ∷ 7 ∷ 7 ∷ 7 ∷ 7 ∷ 7 ∷ 7 ∷ 7 ∷ 7 ∷ 7 ∷ 7 ∷ 7 ∷ 7 ∷ 0 ∷ 0 ∷ 0 ∷ 0 ∷ 0 ∷ 7 ∷ [])
    ∷ (map (λ (x : Answer). get_or (output_after x (5 ∷ []) (7 ∷ [])) 0 1) answers, 5 ∷ 7 ∷ 7 ∷ 7 ∷ 7 ∷ 7 ∷ 7 ∷ 7 ∷ 7 ∷ 7 ∷ 7 ∷ 7 ∷ 7 ∷ 7 ∷ 7 ∷ 7 ∷ 7 ∷ 7 ∷ 7 ∷ [])
    -- two bytes beyond 65,536
    ∷ (drop 65534 (work_after accepted (work ++ (8 ∷ 9 ∷ []))), 0 ∷ 0 ∷ 8 ∷ 9 ∷ [])
    ∷ []

-- ---- checks of openings

abbrev pub openings : List (Row Verdict)
openings =
    -- hiding party 1: salt, execution
    (verdict_of (opening_checked toy public_key (put opening_file 31 (230 ∷ []))), verdict 13 0)
    ∷ (verdict_of (opening_checked toy public_key (put opening_file 32 (0 ∷ []))), verdict 13 0)
    -- commitments: the hidden one isn't looked at
    ∷ (verdict_of (opening_checked toy public_key (put opening_file 64 (2 ∷ []))), verdict 13 0)
    ∷ (verdict_of (opening_checked toy public_key (put opening_file 96 (135 ∷ []))), verdict 0 0)
    ∷ (verdict_of (opening_checked toy public_key (put opening_file 128 (117 ∷ []))), verdict 13 2)
    -- output shares
    ∷ (verdict_of (opening_checked toy public_key (put opening_file 144 (154 ∷ []))), verdict 14 0)
    ∷ (verdict_of (opening_checked toy public_key (put opening_file 160 (234 ∷ []))), verdict 14 3)
    ∷ (verdict_of (opening_checked toy public_key (put opening_file 176 (48 ∷ []))), verdict 14 2)
    -- key offset, inverse offsets, first draws, product offsets, R
    ∷ (verdict_of (opening_checked toy public_key (put opening_file 192 (80 ∷ []))), verdict 14 0)
    ∷ (verdict_of (opening_checked toy public_key (put opening_file 193 (198 ∷ []))), verdict 14 0)
    ∷ (verdict_of (opening_checked toy public_key (put opening_file 194 (251 ∷ []))), verdict 14 0)
    ∷ (verdict_of (opening_checked toy public_key (put opening_file 195 (170 ∷ []))), verdict 14 0)
    ∷ (verdict_of (opening_checked toy public_key (put opening_file 196 (72 ∷ []))), verdict 14 0)
    ∷ (verdict_of (opening_checked toy public_key (put opening_file 197 (8 ∷ []))), verdict 14 0)
    -- shares of c, of a and of b
    ∷ (verdict_of (opening_checked toy public_key (put opening_file 198 (123 ∷ []))), verdict 14 0)
    ∷ (verdict_of (opening_checked toy public_key (put opening_file 199 (98 ∷ []))), verdict 15 1)
    ∷ (verdict_of (opening_checked toy public_key (put opening_file 201 (197 ∷ []))), verdict 14 0)
    ∷ (verdict_of (opening_checked toy public_key (put opening_file 203 (15 ∷ []))), verdict 14 2)
    ∷ (verdict_of (opening_checked toy public_key (put opening_file 204 (202 ∷ []))), verdict 14 0)
    ∷ (verdict_of (opening_checked toy public_key (put opening_file 205 (29 ∷ []))), verdict 15 1)
    ∷ (verdict_of (opening_checked toy public_key (put opening_file 206 (158 ∷ []))), verdict 14 2)
    -- hidden party, sibling seeds
    ∷ (verdict_of (opening_checked toy public_key (put opening_file 207 (0 ∷ []))), verdict 13 1)
    ∷ (verdict_of (opening_checked toy public_key (put opening_file 207 (2 ∷ []))), verdict 13 0)
    ∷ (verdict_of (opening_checked toy public_key (put opening_file 208 (151 ∷ []))), verdict 13 2)
    ∷ (verdict_of (opening_checked toy public_key (put opening_file 224 (229 ∷ []))), verdict 13 0)
    -- two of them: a commitment before a share, a share of a lower party before one of a higher, shares before the ciphertext, this before c
    ∷ (verdict_of (opening_checked toy public_key (put (put opening_file 97 (145 ∷ [])) 129 (139 ∷ []))), verdict 13 2)
    ∷ (verdict_of (opening_checked toy public_key (put (put opening_file 161 (208 ∷ [])) 198 (123 ∷ []))), verdict 14 0)
    ∷ (verdict_of (opening_checked toy public_key (put (put opening_file 145 (239 ∷ [])) 200 (143 ∷ []))), verdict 14 2)
    ∷ (verdict_of (opening_checked toy public_key (put (put opening_file 145 (239 ∷ [])) 199 (98 ∷ []))), verdict 14 3)
    -- another plaintext
    ∷ (verdict_of (opening_checked toy (put public_key 0 (101 ∷ [])) opening_file), verdict 14 0)
    -- an opening of execution 0 that hides party 0, where R is 1: nobody reads the offsets
    ∷ (verdict_of (opening_checked toy public_key (put (put (put first_hidden 177 (171 ∷ [])) 193 (242 ∷ [])) 195 (13 ∷ []))), verdict 0 0)
    ∷ (verdict_of (opening_checked toy public_key (put first_hidden 0 (201 ∷ []))), verdict 13 1)
    ∷ []

-- ---- checks of signatures

abbrev pub signatures : List (Row Verdict)
signatures =
    -- another message, another public key
    (verdict_of (signature_checked toy public_key (97 ∷ 98 ∷ 100 ∷ []) signature_file), verdict 16 0)
    ∷ (verdict_of (signature_checked toy (put public_key 4 (105 ∷ [])) message signature_file), verdict 16 0)
    ∷ (verdict_of (signature_checked toy (put public_key 20 (64 ∷ [])) message signature_file), verdict 16 0)
    -- salt, h1, h3
    ∷ (verdict_of (signature_checked toy public_key message (put signature_file 31 (230 ∷ []))), verdict 16 0)
    ∷ (verdict_of (signature_checked toy public_key message (put signature_file 63 (173 ∷ []))), verdict 16 0)
    ∷ (verdict_of (signature_checked toy public_key message (put signature_file 95 (39 ∷ []))), verdict 16 0)
    -- another h3 that hides the same parties
    ∷ (verdict_of (signature_checked toy public_key message (put signature_file 74 (40 ∷ []))), verdict 17 0)
    -- frame 0: sibling seeds, hidden commitment, key offset, inverse offsets, product offsets, c, a, b
    ∷ (verdict_of (signature_checked toy public_key message (put signature_file 96 (188 ∷ []))), verdict 16 0)
    ∷ (verdict_of (signature_checked toy public_key message (put signature_file 128 (209 ∷ []))), verdict 16 0)
    ∷ (verdict_of (signature_checked toy public_key message (put signature_file 160 (171 ∷ []))), verdict 16 0)
    ∷ (verdict_of (signature_checked toy public_key message (put signature_file 176 (242 ∷ []))), verdict 16 0)
    ∷ (verdict_of (signature_checked toy public_key message (put signature_file 177 (13 ∷ []))), verdict 17 0)
    ∷ (verdict_of (signature_checked toy public_key message (put signature_file 179 (198 ∷ []))), verdict 15 0)
    ∷ (verdict_of (signature_checked toy public_key message (put signature_file 180 (44 ∷ []))), verdict 15 0)
    ∷ (verdict_of (signature_checked toy public_key message (put signature_file 181 (16 ∷ []))), verdict 15 0)
    -- frame 1: sibling seeds, hidden commitment, key offset, inverse offsets, c, a, b; the last three zero
    ∷ (verdict_of (signature_checked toy public_key message (put signature_file 182 (136 ∷ []))), verdict 16 0)
    ∷ (verdict_of (signature_checked toy public_key message (put signature_file 214 (60 ∷ []))), verdict 16 0)
    ∷ (verdict_of (signature_checked toy public_key message (put signature_file 246 (176 ∷ []))), verdict 16 0)
    ∷ (verdict_of (signature_checked toy public_key message (put signature_file 262 (220 ∷ []))), verdict 16 0)
    ∷ (verdict_of (signature_checked toy public_key message (put signature_file 265 (215 ∷ []))), verdict 15 1)
    ∷ (verdict_of (signature_checked toy public_key message (put signature_file 266 (243 ∷ []))), verdict 15 1)
    ∷ (verdict_of (signature_checked toy public_key message (put signature_file 267 (205 ∷ []))), verdict 15 1)
    ∷ (verdict_of (signature_checked toy public_key message (put signature_file 265 (0 ∷ 0 ∷ 0 ∷ []))), verdict 17 0)
    -- two of them: c of both frames; c and h1; product offsets and h1
    ∷ (verdict_of (signature_checked toy public_key message (put (put signature_file 179 (198 ∷ [])) 265 (215 ∷ []))), verdict 15 0)
    ∷ (verdict_of (signature_checked toy public_key message (put (put signature_file 265 (215 ∷ [])) 32 (178 ∷ []))), verdict 15 1)
    ∷ (verdict_of (signature_checked toy public_key message (put (put signature_file 177 (13 ∷ [])) 32 (178 ∷ []))), verdict 16 0)
    ∷ []

-- ---- card text

abbrev pub cards : List (Row Verdict)
cards =
    -- as it should be; nothing; no message; another c in the last frame
    (verdict_of (card_checked toy card), verdict 0 0)
    ∷ (verdict_of (card_checked toy []), verdict 18 1)
    ∷ (verdict_of (card_checked toy (remove 43 6 card)), verdict 16 0)
    ∷ (verdict_of (card_checked toy (put card 582 (48 ∷ []))), verdict 15 1)
    -- ends behind a line
    ∷ (verdict_of (card_checked toy (take 43 card)), verdict 18 2)
    ∷ (verdict_of (card_checked toy (take 50 card)), verdict 18 3)
    ∷ (verdict_of (card_checked toy (take 243 card)), verdict 18 4)
    ∷ (verdict_of (card_checked toy (take 416 card)), verdict 18 5)
    -- ends before a line's end
    ∷ (verdict_of (card_checked toy (take 42 card)), verdict 18 1)
    ∷ (verdict_of (card_checked toy (take 49 card)), verdict 18 2)
    ∷ (verdict_of (card_checked toy (take 242 card)), verdict 18 3)
    ∷ (verdict_of (card_checked toy (take 415 card)), verdict 18 4)
    ∷ (verdict_of (card_checked toy (take 588 card)), verdict 18 5)
    -- a line with two digits less, with two more
    ∷ (verdict_of (card_checked toy (remove 40 2 card)), verdict 18 1)
    ∷ (verdict_of (card_checked toy (remove 240 2 card)), verdict 18 3)
    ∷ (verdict_of (card_checked toy (remove 413 2 card)), verdict 18 4)
    ∷ (verdict_of (card_checked toy (remove 586 2 card)), verdict 18 5)
    ∷ (verdict_of (card_checked toy (insert 42 (48 ∷ 48 ∷ []) card)), verdict 18 1)
    ∷ (verdict_of (card_checked toy (insert 242 (48 ∷ 48 ∷ []) card)), verdict 18 3)
    ∷ (verdict_of (card_checked toy (insert 415 (48 ∷ 48 ∷ []) card)), verdict 18 4)
    ∷ (verdict_of (card_checked toy (insert 588 (48 ∷ 48 ∷ []) card)), verdict 18 5)
    -- a digit less in the message; a capital digit in each line; the end of a line doubled
    ∷ (verdict_of (card_checked toy (remove 48 1 card)), verdict 18 2)
    ∷ (verdict_of (card_checked toy (put card 41 (65 ∷ []))), verdict 18 1)
    ∷ (verdict_of (card_checked toy (put card 48 (65 ∷ []))), verdict 18 2)
    ∷ (verdict_of (card_checked toy (put card 241 (65 ∷ []))), verdict 18 3)
    ∷ (verdict_of (card_checked toy (put card 414 (65 ∷ []))), verdict 18 4)
    ∷ (verdict_of (card_checked toy (put card 587 (65 ∷ []))), verdict 18 5)
    ∷ (verdict_of (card_checked toy (insert 43 (10 ∷ []) card)), verdict 18 3)
    ∷ (verdict_of (card_checked toy (insert 243 (10 ∷ []) card)), verdict 18 4)
    -- the bytes beside the digits: / : ` g; a blank; 0x0D before 0x0A
    ∷ (verdict_of (card_checked toy (put card 0 (47 ∷ []))), verdict 18 1)
    ∷ (verdict_of (card_checked toy (put card 0 (58 ∷ []))), verdict 18 1)
    ∷ (verdict_of (card_checked toy (put card 0 (96 ∷ []))), verdict 18 1)
    ∷ (verdict_of (card_checked toy (put card 0 (103 ∷ []))), verdict 18 1)
    ∷ (verdict_of (card_checked toy (put card 0 (32 ∷ []))), verdict 18 1)
    ∷ (verdict_of (card_checked toy (insert 242 (13 ∷ []) card)), verdict 18 3)
    -- bytes behind the last line: a line end, a blank, a frame; behind a forged card
    ∷ (verdict_of (card_checked toy (card ++ (10 ∷ []))), verdict 18 6)
    ∷ (verdict_of (card_checked toy (card ++ (32 ∷ []))), verdict 18 6)
    ∷ (verdict_of (card_checked toy (card ++ (drop 416 card))), verdict 18 6)
    ∷ (verdict_of (card_checked toy ((put card 0 (48 ∷ [])) ++ (10 ∷ []))), verdict 18 6)
    -- two bad lines
    ∷ (verdict_of (card_checked toy (put (put card 416 (120 ∷ [])) 50 (120 ∷ []))), verdict 18 3)
    ∷ []

-- ---- what is printed; frames; two rows of S-boxes

abbrev pub texts : List (Row (List ℕ))
texts =
    -- how many digits a message may have
    (choose (has_size true 32768 0) (1 ∷ []) (0 ∷ []), 1 ∷ [])
    ∷ (choose (has_size true 32768 1) (1 ∷ []) (0 ∷ []), 0 ∷ [])
    ∷ (choose (has_size true 32768 65536) (1 ∷ []) (0 ∷ []), 1 ∷ [])
    ∷ (choose (has_size true 32768 65537) (1 ∷ []) (0 ∷ []), 0 ∷ [])
    ∷ (choose (has_size true 32768 65538) (1 ∷ []) (0 ∷ []), 0 ∷ [])
    -- what is printed
    ∷ (printed (verdict 0 0), 97 ∷ 99 ∷ 99 ∷ 101 ∷ 112 ∷ 116 ∷ 101 ∷ 100 ∷ 10 ∷ [])
    ∷ (printed (verdict 18 1), 114 ∷ 101 ∷ 102 ∷ 117 ∷ 115 ∷ 101 ∷ 100 ∷ 32 ∷ 49 ∷ 56 ∷ 32 ∷ 49 ∷ 10 ∷ [])
    ∷ (printed (verdict 1 0), 114 ∷ 101 ∷ 102 ∷ 117 ∷ 115 ∷ 101 ∷ 100 ∷ 32 ∷ 49 ∷ 32 ∷ 48 ∷ 10 ∷ [])
    ∷ (printed (verdict 9 0), 114 ∷ 101 ∷ 102 ∷ 117 ∷ 115 ∷ 101 ∷ 100 ∷ 32 ∷ 57 ∷ 32 ∷ 48 ∷ 10 ∷ [])
    ∷ (printed (verdict 11 199), 114 ∷ 101 ∷ 102 ∷ 117 ∷ 115 ∷ 101 ∷ 100 ∷ 32 ∷ 49 ∷ 49 ∷ 32 ∷ 49 ∷ 57 ∷ 57 ∷ 10 ∷ [])
    ∷ (printed (verdict 14 16), 114 ∷ 101 ∷ 102 ∷ 117 ∷ 115 ∷ 101 ∷ 100 ∷ 32 ∷ 49 ∷ 52 ∷ 32 ∷ 49 ∷ 54 ∷ 10 ∷ [])
    ∷ (printed (verdict 15 40), 114 ∷ 101 ∷ 102 ∷ 117 ∷ 115 ∷ 101 ∷ 100 ∷ 32 ∷ 49 ∷ 53 ∷ 32 ∷ 52 ∷ 48 ∷ 10 ∷ [])
    ∷ (printed (verdict 18 45), 114 ∷ 101 ∷ 102 ∷ 117 ∷ 115 ∷ 101 ∷ 100 ∷ 32 ∷ 49 ∷ 56 ∷ 32 ∷ 52 ∷ 53 ∷ 10 ∷ [])
    ∷ (printed (verdict 10 100), 114 ∷ 101 ∷ 102 ∷ 117 ∷ 115 ∷ 101 ∷ 100 ∷ 32 ∷ 49 ∷ 48 ∷ 32 ∷ 49 ∷ 48 ∷ 48 ∷ 10 ∷ [])
    -- for no text
    ∷ (printed (verdict_of (card_checked toy [])), 114 ∷ 101 ∷ 102 ∷ 117 ∷ 115 ∷ 101 ∷ 100 ∷ 32 ∷ 49 ∷ 56 ∷ 32 ∷ 49 ∷ 10 ∷ [])
    -- a card's text
    ∷ (card_text toy public_key message signature_file, 54 ∷ 52 ∷ 54 ∷ 53 ∷ 54 ∷ 54 ∷ 54 ∷ 55 ∷ 54 ∷ 56 ∷ 98 ∷ 53 ∷ 53 ∷ 48 ∷ 51 ∷ 52 ∷ 51 ∷ 53 ∷ 51 ∷ 54 ∷ 51 ∷ 55 ∷ 51 ∷ 56 ∷ 51 ∷ 57 ∷ 51 ∷ 97 ∷ 51 ∷ 98 ∷ 51 ∷ 99 ∷ 51 ∷ 100 ∷ 51 ∷ 101 ∷ 51 ∷ 102 ∷ 52 ∷ 48 ∷ 52 ∷ 49 ∷ 10 ∷ 54 ∷ 49 ∷ 54 ∷ 50 ∷ 54 ∷ 51 ∷ 10 ∷ 99 ∷ 56 ∷ 99 ∷ 57 ∷ 99 ∷ 97 ∷ 99 ∷ 98 ∷ 99 ∷ 99 ∷ 99 ∷ 100 ∷ 99 ∷ 101 ∷ 99 ∷ 102 ∷ 100 ∷ 48 ∷ 100 ∷ 49 ∷ 100 ∷ 50 ∷ 100 ∷ 51 ∷ 100 ∷ 52 ∷ 100 ∷ 53 ∷ 100 ∷ 54 ∷ 100 ∷ 55 ∷ 100 ∷ 56 ∷ 100 ∷ 57 ∷ 100 ∷ 97 ∷ 100 ∷ 98 ∷ 100 ∷ 99 ∷ 100 ∷ 100 ∷ 100 ∷ 101 ∷ 100 ∷ 102 ∷ 101 ∷ 48 ∷ 101 ∷ 49 ∷ 101 ∷ 50 ∷ 101 ∷ 51 ∷ 101 ∷ 52 ∷ 101 ∷ 53 ∷ 101 ∷ 54 ∷ 101 ∷ 55 ∷ 98 ∷ 51 ∷ 100 ∷ 53 ∷ 98 ∷ 100 ∷ 102 ∷ 48 ∷ 98 ∷ 56 ∷ 102 ∷ 98 ∷ 50 ∷ 52 ∷ 56 ∷ 98 ∷ 98 ∷ 52 ∷ 49 ∷ 56 ∷ 99 ∷ 52 ∷ 48 ∷ 52 ∷ 52 ∷ 55 ∷ 56 ∷ 57 ∷ 57 ∷ 48 ∷ 55 ∷ 50 ∷ 97 ∷ 55 ∷ 50 ∷ 51 ∷ 97 ∷ 51 ∷ 55 ∷ 48 ∷ 98 ∷ 99 ∷ 102 ∷ 54 ∷ 101 ∷ 99 ∷ 102 ∷ 99 ∷ 54 ∷ 102 ∷ 97 ∷ 55 ∷ 52 ∷ 100 ∷ 57 ∷ 50 ∷ 101 ∷ 53 ∷ 99 ∷ 57 ∷ 102 ∷ 98 ∷ 97 ∷ 99 ∷ 97 ∷ 52 ∷ 54 ∷ 99 ∷ 98 ∷ 49 ∷ 48 ∷ 50 ∷ 55 ∷ 50 ∷ 98 ∷ 98 ∷ 52 ∷ 54 ∷ 51 ∷ 48 ∷ 100 ∷ 98 ∷ 101 ∷ 102 ∷ 50 ∷ 57 ∷ 54 ∷ 54 ∷ 99 ∷ 48 ∷ 53 ∷ 55 ∷ 102 ∷ 102 ∷ 48 ∷ 53 ∷ 100 ∷ 54 ∷ 57 ∷ 101 ∷ 101 ∷ 48 ∷ 53 ∷ 49 ∷ 51 ∷ 56 ∷ 57 ∷ 53 ∷ 98 ∷ 54 ∷ 100 ∷ 101 ∷ 101 ∷ 51 ∷ 101 ∷ 52 ∷ 51 ∷ 57 ∷ 98 ∷ 57 ∷ 101 ∷ 54 ∷ 101 ∷ 102 ∷ 98 ∷ 57 ∷ 50 ∷ 54 ∷ 10 ∷ 98 ∷ 100 ∷ 98 ∷ 97 ∷ 102 ∷ 52 ∷ 55 ∷ 99 ∷ 55 ∷ 100 ∷ 99 ∷ 100 ∷ 57 ∷ 55 ∷ 54 ∷ 51 ∷ 50 ∷ 101 ∷ 101 ∷ 99 ∷ 102 ∷ 51 ∷ 53 ∷ 57 ∷ 48 ∷ 50 ∷ 54 ∷ 54 ∷ 98 ∷ 49 ∷ 48 ∷ 99 ∷ 48 ∷ 99 ∷ 52 ∷ 52 ∷ 98 ∷ 98 ∷ 54 ∷ 102 ∷ 98 ∷ 48 ∷ 101 ∷ 54 ∷ 101 ∷ 99 ∷ 99 ∷ 51 ∷ 55 ∷ 98 ∷ 98 ∷ 49 ∷ 48 ∷ 49 ∷ 49 ∷ 48 ∷ 51 ∷ 52 ∷ 49 ∷ 48 ∷ 48 ∷ 102 ∷ 100 ∷ 53 ∷ 100 ∷ 48 ∷ 100 ∷ 100 ∷ 99 ∷ 100 ∷ 50 ∷ 100 ∷ 55 ∷ 98 ∷ 99 ∷ 97 ∷ 54 ∷ 48 ∷ 57 ∷ 53 ∷ 97 ∷ 57 ∷ 54 ∷ 48 ∷ 51 ∷ 56 ∷ 99 ∷ 48 ∷ 101 ∷ 54 ∷ 54 ∷ 100 ∷ 52 ∷ 97 ∷ 99 ∷ 56 ∷ 97 ∷ 55 ∷ 54 ∷ 99 ∷ 57 ∷ 50 ∷ 48 ∷ 57 ∷ 52 ∷ 56 ∷ 54 ∷ 99 ∷ 102 ∷ 57 ∷ 49 ∷ 101 ∷ 102 ∷ 57 ∷ 99 ∷ 54 ∷ 99 ∷ 49 ∷ 48 ∷ 53 ∷ 53 ∷ 57 ∷ 49 ∷ 54 ∷ 100 ∷ 56 ∷ 98 ∷ 101 ∷ 97 ∷ 97 ∷ 49 ∷ 100 ∷ 99 ∷ 56 ∷ 52 ∷ 51 ∷ 51 ∷ 48 ∷ 51 ∷ 53 ∷ 100 ∷ 56 ∷ 100 ∷ 101 ∷ 101 ∷ 54 ∷ 56 ∷ 57 ∷ 55 ∷ 97 ∷ 97 ∷ 52 ∷ 99 ∷ 97 ∷ 48 ∷ 98 ∷ 57 ∷ 57 ∷ 99 ∷ 54 ∷ 102 ∷ 51 ∷ 48 ∷ 99 ∷ 99 ∷ 48 ∷ 99 ∷ 55 ∷ 50 ∷ 100 ∷ 49 ∷ 49 ∷ 10 ∷ 56 ∷ 57 ∷ 101 ∷ 50 ∷ 53 ∷ 98 ∷ 97 ∷ 52 ∷ 97 ∷ 52 ∷ 49 ∷ 53 ∷ 101 ∷ 52 ∷ 57 ∷ 98 ∷ 55 ∷ 56 ∷ 97 ∷ 97 ∷ 102 ∷ 99 ∷ 51 ∷ 51 ∷ 49 ∷ 48 ∷ 53 ∷ 55 ∷ 57 ∷ 97 ∷ 57 ∷ 57 ∷ 50 ∷ 51 ∷ 55 ∷ 53 ∷ 50 ∷ 101 ∷ 98 ∷ 51 ∷ 53 ∷ 54 ∷ 98 ∷ 51 ∷ 99 ∷ 97 ∷ 97 ∷ 101 ∷ 56 ∷ 49 ∷ 50 ∷ 52 ∷ 50 ∷ 100 ∷ 51 ∷ 55 ∷ 98 ∷ 57 ∷ 100 ∷ 101 ∷ 52 ∷ 98 ∷ 53 ∷ 97 ∷ 51 ∷ 100 ∷ 57 ∷ 101 ∷ 57 ∷ 49 ∷ 56 ∷ 48 ∷ 55 ∷ 99 ∷ 49 ∷ 101 ∷ 56 ∷ 48 ∷ 48 ∷ 51 ∷ 98 ∷ 102 ∷ 49 ∷ 50 ∷ 51 ∷ 54 ∷ 48 ∷ 49 ∷ 101 ∷ 48 ∷ 51 ∷ 52 ∷ 56 ∷ 97 ∷ 54 ∷ 101 ∷ 53 ∷ 56 ∷ 57 ∷ 54 ∷ 102 ∷ 49 ∷ 54 ∷ 100 ∷ 99 ∷ 99 ∷ 99 ∷ 99 ∷ 99 ∷ 57 ∷ 54 ∷ 57 ∷ 100 ∷ 56 ∷ 54 ∷ 55 ∷ 53 ∷ 48 ∷ 102 ∷ 50 ∷ 51 ∷ 49 ∷ 99 ∷ 49 ∷ 100 ∷ 99 ∷ 98 ∷ 49 ∷ 98 ∷ 49 ∷ 98 ∷ 52 ∷ 56 ∷ 52 ∷ 48 ∷ 98 ∷ 57 ∷ 57 ∷ 102 ∷ 48 ∷ 97 ∷ 57 ∷ 100 ∷ 55 ∷ 52 ∷ 99 ∷ 51 ∷ 51 ∷ 102 ∷ 54 ∷ 55 ∷ 56 ∷ 50 ∷ 49 ∷ 49 ∷ 52 ∷ 97 ∷ 56 ∷ 100 ∷ 52 ∷ 100 ∷ 100 ∷ 99 ∷ 48 ∷ 55 ∷ 57 ∷ 100 ∷ 54 ∷ 102 ∷ 50 ∷ 99 ∷ 99 ∷ 10 ∷ [])
    -- frames of a signature: both, the next, one of a file that is too short
    ∷ (frame_of toy signature_file 0, 189 ∷ 186 ∷ 244 ∷ 124 ∷ 125 ∷ 205 ∷ 151 ∷ 99 ∷ 46 ∷ 236 ∷ 243 ∷ 89 ∷ 2 ∷ 102 ∷ 177 ∷ 12 ∷ 12 ∷ 68 ∷ 187 ∷ 111 ∷ 176 ∷ 230 ∷ 236 ∷ 195 ∷ 123 ∷ 177 ∷ 1 ∷ 16 ∷ 52 ∷ 16 ∷ 15 ∷ 213 ∷ 208 ∷ 221 ∷ 205 ∷ 45 ∷ 123 ∷ 202 ∷ 96 ∷ 149 ∷ 169 ∷ 96 ∷ 56 ∷ 192 ∷ 230 ∷ 109 ∷ 74 ∷ 200 ∷ 167 ∷ 108 ∷ 146 ∷ 9 ∷ 72 ∷ 108 ∷ 249 ∷ 30 ∷ 249 ∷ 198 ∷ 193 ∷ 5 ∷ 89 ∷ 22 ∷ 216 ∷ 190 ∷ 170 ∷ 29 ∷ 200 ∷ 67 ∷ 48 ∷ 53 ∷ 216 ∷ 222 ∷ 230 ∷ 137 ∷ 122 ∷ 164 ∷ 202 ∷ 11 ∷ 153 ∷ 198 ∷ 243 ∷ 12 ∷ 192 ∷ 199 ∷ 45 ∷ 17 ∷ [])
    ∷ (frame_of toy signature_file 1, 137 ∷ 226 ∷ 91 ∷ 164 ∷ 164 ∷ 21 ∷ 228 ∷ 155 ∷ 120 ∷ 170 ∷ 252 ∷ 51 ∷ 16 ∷ 87 ∷ 154 ∷ 153 ∷ 35 ∷ 117 ∷ 46 ∷ 179 ∷ 86 ∷ 179 ∷ 202 ∷ 174 ∷ 129 ∷ 36 ∷ 45 ∷ 55 ∷ 185 ∷ 222 ∷ 75 ∷ 90 ∷ 61 ∷ 158 ∷ 145 ∷ 128 ∷ 124 ∷ 30 ∷ 128 ∷ 3 ∷ 191 ∷ 18 ∷ 54 ∷ 1 ∷ 224 ∷ 52 ∷ 138 ∷ 110 ∷ 88 ∷ 150 ∷ 241 ∷ 109 ∷ 204 ∷ 204 ∷ 201 ∷ 105 ∷ 216 ∷ 103 ∷ 80 ∷ 242 ∷ 49 ∷ 193 ∷ 220 ∷ 177 ∷ 177 ∷ 180 ∷ 132 ∷ 11 ∷ 153 ∷ 240 ∷ 169 ∷ 215 ∷ 76 ∷ 51 ∷ 246 ∷ 120 ∷ 33 ∷ 20 ∷ 168 ∷ 212 ∷ 221 ∷ 192 ∷ 121 ∷ 214 ∷ 242 ∷ 204 ∷ [])
    ∷ (frame_of toy signature_file 2, [])
    ∷ (frame_of toy (take 267 signature_file) 0, [])
    -- two rows of S-boxes: a public key, the product offset at 3, the second party's shares of a in an opening
    ∷ ((make_public_key rows_toy key plaintext (replicate 21 7)).output, 100 ∷ 101 ∷ 102 ∷ 103 ∷ 104 ∷ 181 ∷ 52 ∷ 16 ∷ 143 ∷ 85 ∷ 55 ∷ 56 ∷ 57 ∷ 58 ∷ 59 ∷ 60 ∷ 61 ∷ 62 ∷ 63 ∷ 64 ∷ 65 ∷ [])
    ∷ (product_offset_at rows_toy (tape_of rows_toy salt (take 16 seeds) 0) plaintext key (5 ∷ 250 ∷ []) 3 ∷ [], 131 ∷ [])
    ∷ (part 159 2 (opening rows_toy key rows_key salt (take 16 seeds) (5 ∷ 250 ∷ []) 0 77 1), 180 ∷ 176 ∷ [])
    ∷ []

-- ---- other sets

abbrev pub others : List (Row Verdict)
others =
    -- two rows of S-boxes: a zero input at 3; at 1 and 3; at 0; none
    (verdict_of (public_key_answer rows_toy (put key 3 (67 ∷ [])) plaintext (replicate 21 7)), verdict 11 3)
    ∷ (verdict_of (public_key_answer rows_toy (put (put key 1 (226 ∷ [])) 3 (98 ∷ [])) plaintext (replicate 21 7)), verdict 11 1)
    ∷ (verdict_of (public_key_answer rows_toy (put key 0 (100 ∷ [])) plaintext (replicate 21 7)), verdict 11 0)
    ∷ (verdict_of (public_key_answer rows_toy key plaintext (replicate 21 7)), verdict 0 0)
    -- a signature
    ∷ (verdict_of (signature_checked rows_toy rows_key message rows_signature), verdict 0 0)
    -- wide elements of two bytes: an opening
    ∷ (verdict_of (opening_checked wide_toy wide_key wide_opening), verdict 0 0)
    ∷ []
