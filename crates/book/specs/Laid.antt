-- The book that stands in bytes that are as long as their header says.
use Rattle.book.specs.declared.laid.LaidBook.{LaidBook}
use Rattle.book.specs.Book.{Book, book_in}

-- by the header that was read
abbrev pub book_at : LaidBook → Book
book_at b = book_in b.bytes.now b.header
